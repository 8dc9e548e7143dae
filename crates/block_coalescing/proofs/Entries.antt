-- What a table says behind each change.
use Rattle.std.proofs.Common.{◌≡◌, ◌≢◌, ℕ, ◌<◌, ◌≤◌, ◌⊎◌, List, Option, Some, None, Bool, true, false, refl, sym, ap, ◌∙◌, inl, inr, length, arith, subst}
use Rattle.std.specs.Prelude.{nat_lt, nat_le, slice_index_or, IfSome}
use Rattle.std.proofs.lemmas.Option.{slice_get_read, get_or_from_slice_get}
use Rattle.std.proofs.Math.ListN.{set}
use Rattle.std.proofs.lemmas.Bool.{leb-true, le-leb, ltb-true, lt-ltb}
use Rattle.std.proofs.lemmas.List.{get_or-set_same, get_or-set_other}
use Rattle.bk_bits.specs.Sets.{has}
use Rattle.block_coalescing.specs.Walks.{WriteName, IsTop}
use Rattle.block_coalescing.specs.model.Tables.{if_still, still, time_of, temporary_of, name_in}
use Rattle.block_coalescing.proofs.Stays.{same_or}

-- a name is one of what was noted, whose temporary was not written since
pub record View (written : List ℕ) (time : ℕ) (o : Option ℕ) (p : ℕ) : Type 0 where
  pub noted : o ≡ Some p
  pub last : slice_index_or written p 0 ≤ time

pub view : (written : List ℕ) (time : ℕ) (o : Option ℕ) (p : ℕ) → still written time o ≡ Some p → View written time o p
view written time None p e = absurd (cc)
view written time (Some q) p e = go (nat_le (slice_index_or written q 0) time) refl e
  where
    go : (b : Bool) → nat_le (slice_index_or written q 0) time ≡ b → if_still b q ≡ Some p → View written time (Some q) p
    go false f g = absurd (cc)
    go true f g =
        let same : q ≡ p = cc in
        subst (λ k. View written time (Some q) k) same (record { noted = refl; last = leb-true (slice_index_or written q 0) time f })

pub unview : (written : List ℕ) (time : ℕ) (o : Option ℕ) (p : ℕ) → View written time o p → still written time o ≡ Some p
unview written time o p v = subst (λ k. still written time k ≡ Some p) (sym v.noted) (ap (λ b. if_still b p) (le-leb (slice_index_or written p 0) time v.last))

time_most : (b : Bool) (start since clock : ℕ) → start ≤ clock → since ≤ clock → time_of b start since ≤ clock
time_most true start since clock h k = h
time_most false start since clock h k = k

module _ (names : List (Option ℕ)) (since written : List ℕ) (start clock : ℕ) (top : List Bool) (begun : start ≤ clock) (timely : (r : ℕ) → slice_index_or since r 0 ≤ clock) where
  abbrev time_at : ℕ → ℕ
  time_at r = time_of (nat_lt (slice_index_or since r 0) start) start (slice_index_or since r 0)

  abbrev temporary_at : ℕ → Option ℕ
  temporary_at r = temporary_of (nat_lt (slice_index_or since r 0) start) (has top r) r (slice_index_or names r None)

  timely_at : (r : ℕ) → time_at r ≤ clock
  timely_at r = time_most (nat_lt (slice_index_or since r 0) start) start (slice_index_or since r 0) clock begun (timely r)

  -- another block begins: what is live at its top has its own name, and nothing else has one
  pub top_names : (now : ℕ) → clock < now → IsTop (has top) (name_in names since written now top)
  top_names now later = record { each = λ r q is. each r q is }
    where
      old : (r : ℕ) → nat_lt (slice_index_or since r 0) now ≡ true
      old r = let most = timely r in lt-ltb (slice_index_or since r 0) now (omega (arith, later, most))

      live : (b : Bool) (r q : ℕ) (o : Option ℕ) → temporary_of true b r o ≡ Some q → (q ≡ r) × (b ≡ true)
      live true r q o e = let same : q ≡ r = cc in (same, refl)
      live false r q o e = absurd (cc)

      each : (r q : ℕ) → name_in names since written now top r ≡ Some q → (q ≡ r) × (has top r ≡ true)
      each r q is = live (has top r) r q (slice_index_or names r None) (subst (λ b. temporary_of b (has top r) r (slice_index_or names r None) ≡ Some q) (old r) (view written (time_of (nat_lt (slice_index_or since r 0) now) now (slice_index_or since r 0)) (temporary_of (nat_lt (slice_index_or since r 0) now) (has top r) r (slice_index_or names r None)) q is).noted)

  module _ (d : ℕ) (o : Option ℕ) (now : ℕ) (later : clock ≤ now) (within : d < length names) (within' : d < length since) where
    abbrev names' : List (Option ℕ)
    names' = set names d o

    abbrev since' : List ℕ
    since' = set since d now

    young : nat_lt (slice_index_or since' d 0) start ≡ false
    young = test (nat_lt (slice_index_or since' d 0) start) refl
      where
        test : (b : Bool) → nat_lt (slice_index_or since' d 0) start ≡ b → b ≡ false
        test true e = absurd (let less : slice_index_or since' d 0 < start = ltb-true (slice_index_or since' d 0) start e in let same : slice_index_or since' d 0 ≡ now = get_or-set_same since d now 0 within' in omega (arith, less, same, later, begun))
        test false e = refl

    -- the temporary of which something is noted
    here : (written' : List ℕ) (p : ℕ) → name_in names' since' written' start top d ≡ Some p → o ≡ Some p
    here written' p is =
        let v = view written' (time_of (nat_lt (slice_index_or since' d 0) start) start (slice_index_or since' d 0)) (temporary_of (nat_lt (slice_index_or since' d 0) start) (has top d) d (slice_index_or names' d None)) p is in
        let noted : slice_index_or names' d None ≡ Some p = subst (λ b. temporary_of b (has top d) d (slice_index_or names' d None) ≡ Some p) young v.noted in
        sym (get_or-set_same names d o None within) ∙ noted

    -- another one
    other : (written' : List ℕ) (r : ℕ) → r ≢ d → name_in names' since' written' start top r ≡ name_in names since written' start top r
    other written' r n =
        ap (λ t. still written' (time_of (nat_lt t start) start t) (temporary_of (nat_lt t start) (has top r) r (slice_index_or names' r None))) (get_or-set_other since d r now 0 n)
        ∙ ap (λ k. still written' (time_at r) (temporary_of (nat_lt (slice_index_or since r 0) start) (has top r) r k)) (get_or-set_other names d r o None n)

    pub note_names : (r p : ℕ) → name_in names' since' written start top r ≡ Some p → ((r ≡ d) × (o ≡ Some p)) ⊎ ((r ≢ d) × (name_in names since written start top r ≡ Some p))
    note_names r p is = go (same_or r d)
      where
        go : (r ≡ d) ⊎ (r ≢ d) → ((r ≡ d) × (o ≡ Some p)) ⊎ ((r ≢ d) × (name_in names since written start top r ≡ Some p))
        go (inl e) = inl (e, here written p (subst (λ k. name_in names' since' written start top k ≡ Some p) e is))
        go (inr n) = inr (n, sym (other written r n) ∙ is)

    pub write_names : (e : ℕ) → o ≡ Some e → clock < now → e < length written → (r p : ℕ) → name_in names' since' (set written e now) start top r ≡ Some p → WriteName (name_in names since written start top) d e r p
    write_names e of after room r p is = go (same_or r d)
      where
        alike : (k : ℕ) → o ≡ Some k → k ≡ e
        alike k f = cc

        passed : name_in names since (set written e now) start top r ≡ Some p → (p ≢ e) × (name_in names since written start top r ≡ Some p)
        passed is' =
            let v = view (set written e now) (time_at r) (temporary_at r) p is' in
            let most = timely_at r in
            let apart : p ≢ e = λ same. let last : now ≤ time_at r = subst (λ k. k ≤ time_at r) (ap (λ k. slice_index_or (set written e now) k 0) same ∙ get_or-set_same written e now 0 room) v.last in omega (arith, last, most, after) in
            (apart, unview written (time_at r) (temporary_at r) p (record { noted = v.noted; last = subst (λ k. k ≤ time_at r) (get_or-set_other written e p now 0 apart) v.last }))

        go : (r ≡ d) ⊎ (r ≢ d) → WriteName (name_in names since written start top) d e r p
        go (inl f) = inl (f, alike p (here (set written e now) p (subst (λ k. name_in names' since' (set written e now) start top k ≡ Some p) f is)))
        go (inr n) = let rest = passed (sym (other (set written e now) r n) ∙ is) in inr (n, rest.0, rest.1)

pub timely_set : (since : List ℕ) (d clock now : ℕ) → clock ≤ now → d < length since → ((r : ℕ) → slice_index_or since r 0 ≤ clock) → (r : ℕ) → slice_index_or (set since d now) r 0 ≤ now
timely_set since d clock now later within timely r = go (same_or r d)
  where
    go : (r ≡ d) ⊎ (r ≢ d) → slice_index_or (set since d now) r 0 ≤ now
    go (inr n) = let most = timely r in let same : slice_index_or (set since d now) r 0 ≡ slice_index_or since r 0 = get_or-set_other since d r now 0 n in omega (arith, same, most, later)
    go (inl e) = let same : slice_index_or (set since d now) r 0 ≡ now = ap (λ k. slice_index_or (set since d now) k 0) e ∙ get_or-set_same since d now 0 within in omega (arith, same)

module _ (names : List (Option ℕ)) (since written : List ℕ) (start : ℕ) (top : List Bool) (r : ℕ) where
  -- where nothing was noted since the top of the block, and where something was
  pub old_name : slice_index_or since r 0 < start → has top r ≡ true → still written start (Some r) ≡ name_in names since written start top r
  old_name e f = sym (ap (λ b. still written (time_of b start (slice_index_or since r 0)) (temporary_of b (has top r) r (slice_index_or names r None))) (lt-ltb (slice_index_or since r 0) start e) ∙ ap (λ b. still written start (temporary_of true b r (slice_index_or names r None))) f)

  pub young_name : (o : Option ℕ) → start ≤ slice_index_or since r 0 → slice_index_or names r None ≡ o → still written (slice_index_or since r 0) o ≡ name_in names since written start top r
  young_name o e f = go (nat_lt (slice_index_or since r 0) start) refl
    where
      go : (b : Bool) → nat_lt (slice_index_or since r 0) start ≡ b → still written (slice_index_or since r 0) o ≡ name_in names since written start top r
      go true g = absurd (let less : slice_index_or since r 0 < start = ltb-true (slice_index_or since r 0) start g in omega (arith, less, e))
      go false g = sym (ap (λ b. still written (time_of b start (slice_index_or since r 0)) (temporary_of b (has top r) r (slice_index_or names r None))) g ∙ ap (λ k. still written (slice_index_or since r 0) k) f)

read : {A : Type 0} → (xs : List A) (i : ℕ) (x d : A) → i < length xs → x ≡ slice_index_or xs i x → slice_index_or xs i d ≡ x
read xs i x d within is = get_or_from_slice_get xs i x d (slice_get_read xs (length xs) i x refl within is)

-- as the code reads its tables
module _ (names : List (Option ℕ)) (since written : List ℕ) (start : ℕ) (top : List Bool) (r v : ℕ) (within : r < length since) (is : v ≡ slice_index_or since r v) where
  since_is : slice_index_or since r 0 ≡ v
  since_is = read since r v 0 within is

  pub old_read : (result : Option ℕ) → v < start → has top r ≡ true → IfSome result (λ q. still written start (Some r) ≡ Some q) → IfSome result (λ q. name_in names since written start top r ≡ Some q)
  old_read result e f h = subst (λ k. IfSome result (λ q. k ≡ Some q)) (old_name names since written start top r (let same = since_is in omega (arith, e, same)) f) h

  pub young_read : (result o : Option ℕ) (noted : ℕ) → start ≤ v → r < length names → o ≡ slice_index_or names r o → o ≡ Some noted → IfSome result (λ q. still written v (Some noted) ≡ Some q) → IfSome result (λ q. name_in names since written start top r ≡ Some q)
  young_read result o noted e room there some h =
      let found : slice_index_or names r None ≡ Some noted = read names r o None room there ∙ some in
      let late : start ≤ slice_index_or since r 0 = let same = since_is in omega (arith, e, same) in
      subst (λ k. IfSome result (λ q. k ≡ Some q)) (ap (λ t. still written t (Some noted)) (sym since_is) ∙ young_name names since written start top r (Some noted) late found) h
