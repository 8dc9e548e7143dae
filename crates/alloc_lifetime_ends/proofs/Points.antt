-- The points at which a temporary is present in a block, against those to which its last point is raised.
use Rattle.std.proofs.Common.{◌≡◌, ℕ, zero, suc, ◌+◌, ◌*◌, ◌-◌, ◌<◌, ◌≤◌, ◌⊎◌, ◌==◌, ◌&&◌, ◌||◌, not, Bool, true, false, List, [], ◌∷◌, ◌++◌, refl, sym, ap, ◌∙◌, subst, inl, inr, ⊎_elim, length, get_or, take, drop, replicate, arith, Some}
use Rattle.std.specs.Prelude.{slice_get, nat_le}
use Rattle.std.proofs.lemmas.Bool.{eq-eqb, eqb-true, le-leb}
use Rattle.std.proofs.lemmas.List.{take_more, get_or-replicate, length-replicate, take_all}
use Rattle.std.proofs.lemmas.List.Sums.{sum_by-cons, sum_by-take-le}
use Rattle.std.proofs.lemmas.Option.{slice_get-get_or}
use Rattle.bk_bits.specs.Sets.{has}
use Rattle.pass_core.specs.Functions.{count_of}
use Rattle.temp_ir.specs.declared.insn.TempInsn.{TempInsn}
use Rattle.temp_ir.specs.Insns.{reads_of, writes_of}
use Rattle.alloc_model.specs.Lifetimes.{Blocks}
use Rattle.bitvector_flow.specs.Flows.{has_at}
use Rattle.bitvector_flow.specs.Lives.{has_register, reads_first, some_writes}
use Rattle.bitvector_flow.proofs.Unions.{written_back}
use Rattle.bitvector_flow.proofs.Lives.{either, or_cases, and_right, names_of, of_names, drop_first}
use Rattle.alloc_lifetime_ends.specs.Wanted.{live_in, live_by, present_at, present_from, present_in, wants_of}
use Rattle.alloc_lifetime_ends.specs.Ends.{AreEnds}
use Rattle.alloc_lifetime_ends.specs.model.Raised.{IsOfInsns, IsBehind, IsOfBlock, IsRaised, IsPresentIn}
use Rattle.alloc_lifetime_ends.proofs.Raising.{by, both}

pub and_of : (a b : Bool) → a ≡ true → b ≡ true → (a && b) ≡ true
and_of true b h g = g
and_of false b h g = let no : ⊥ = cc in absurd no

pub and_one : (a b : Bool) → (a && b) ≡ true → a ≡ true
and_one true b h = refl
and_one false b h = h

pub and_two : (a b : Bool) → (a && b) ≡ true → b ≡ true
and_two true b h = h
and_two false b h = let no : ⊥ = cc in absurd no

-- ---- in a block

module _ (whole : List TempInsn) (bottom : List Bool) (t : ℕ) where
  abbrev pub Live : ℕ → Bool
  Live at = live_in (Some whole) (has bottom t) t at

  live_cases : (at : ℕ) (xs : List TempInsn) → drop at whole ≡ xs → Live at ≡ true → (reads_first reads_of writes_of xs t ≡ true) ⊎ (has bottom t ≡ true)
  live_cases at xs e h =
      ⊎_elim (λ first. inl (sym (ap (λ ys. reads_first reads_of writes_of ys t) e) ∙ first))
      (λ rest. inr (and_right (some_writes writes_of (drop at whole) t) (has bottom t) rest))
      (or_cases (reads_first reads_of writes_of (drop at whole) t) (not (some_writes writes_of (drop at whole) t) && has bottom t)
      (and_two (nat_le at (length whole)) (reads_first reads_of writes_of (drop at whole) t || (not (some_writes writes_of (drop at whole) t) && has bottom t)) h))

  -- what is read first is read later
  read_later : (xs : List TempInsn) (number : ℕ) → reads_first reads_of writes_of xs t ≡ true → (q : ℕ) × (2 * number ≤ q) × IsOfInsns number xs t q
  read_later [] number h = let no : ⊥ = cc in absurd no
  read_later (x ∷ xs) number h =
      ⊎_elim (λ here. (2 * number, omega arith, inl (inl (of_names (reads_of x) t here, refl))))
      (λ rest. further (read_later xs (suc number) (and_right (has_register (writes_of x) t) (reads_first reads_of writes_of xs t) rest)))
      (or_cases (has_register (reads_of x) t) (not (has_register (writes_of x) t) && reads_first reads_of writes_of xs t) h)
    where
      further : (q : ℕ) × (2 * suc number ≤ q) × IsOfInsns (suc number) xs t q → (q : ℕ) × (2 * number ≤ q) × IsOfInsns number (x ∷ xs) t q
      further (q, low, is) = (q, omega (arith, low), inr is)

  abbrev IsMarked : (number : ℕ) (xs : List TempInsn) (q : ℕ) → Type 0
  IsMarked number xs q = IsOfInsns number xs t q ⊎ IsBehind number (number + length xs) bottom t q

  -- what is live at the bottom is so behind the last instruction
  behind_last : (number p : ℕ) (x : TempInsn) (xs : List TempInsn) → p ≤ 2 * number + 1 → has bottom t ≡ true → (q : ℕ) × (p ≤ q) × IsMarked number (x ∷ xs) q
  behind_last number p x xs low h =
      (2 * (number + suc (length xs)) - 1, omega (arith, low), inr (record { some = omega arith; live = h; is = omega arith }))

  at_marked : (number p at : ℕ) (x : TempInsn) (xs : List TempInsn) → drop at whole ≡ x ∷ xs → present_at Live t p number at x ≡ true → (q : ℕ) × (p ≤ q) × IsMarked number (x ∷ xs) q
  at_marked number p at x xs e h =
      ⊎_elim
      (λ early. let place : p ≡ 2 * number = eqb-true p (2 * number) (and_one (p == 2 * number) (has_register (reads_of x) t || Live at) early) in
      ⊎_elim (λ here. (p, omega arith, inl (inl (inl (of_names (reads_of x) t here, place)))))
      (λ live. ⊎_elim (λ first. low p place (read_later (x ∷ xs) number first)) (λ end. behind_last number p x xs (omega (arith, place)) end) (live_cases at (x ∷ xs) e live))
      (or_cases (has_register (reads_of x) t) (Live at) (and_two (p == 2 * number) (has_register (reads_of x) t || Live at) early)))
      (λ late. let place : p ≡ 2 * number + 1 = eqb-true p (2 * number + 1) (and_one (p == 2 * number + 1) (has_register (writes_of x) t || Live (suc at)) late) in
      let next = (drop_first whole at x xs e).1 in
      ⊎_elim (λ here. (p, omega arith, inl (inl (inr (of_names (writes_of x) t here, place)))))
      (λ live. ⊎_elim (λ first. high p place (read_later xs (suc number) first)) (λ end. behind_last number p x xs (omega (arith, place)) end) (live_cases (suc at) xs next live))
      (or_cases (has_register (writes_of x) t) (Live (suc at)) (and_two (p == 2 * number + 1) (has_register (writes_of x) t || Live (suc at)) late)))
      (or_cases ((p == 2 * number) && (has_register (reads_of x) t || Live at)) ((p == 2 * number + 1) && (has_register (writes_of x) t || Live (suc at))) h)
    where
      low : (p : ℕ) → p ≡ 2 * number → (q : ℕ) × (2 * number ≤ q) × IsOfInsns number (x ∷ xs) t q → (q : ℕ) × (p ≤ q) × IsMarked number (x ∷ xs) q
      low p place (q, below, is) = (q, omega (arith, below, place), inl is)

      high : (p : ℕ) → p ≡ 2 * number + 1 → (q : ℕ) × (2 * suc number ≤ q) × IsOfInsns (suc number) xs t q → (q : ℕ) × (p ≤ q) × IsMarked number (x ∷ xs) q
      high p place (q, below, is) = (q, omega (arith, below, place), inl (inr is))

  pub point_marked : (xs : List TempInsn) (number at p : ℕ) → drop at whole ≡ xs → present_from Live t p number at xs ≡ true → (q : ℕ) × (p ≤ q) × IsMarked number xs q
  point_marked [] number at p e h = let no : ⊥ = cc in absurd no
  point_marked (x ∷ xs) number at p e h =
      ⊎_elim (at_marked number p at x xs e)
      (λ later. further (point_marked xs (suc number) (suc at) p (drop_first whole at x xs e).1 later))
      (or_cases (present_at Live t p number at x) (present_from Live t p (suc number) (suc at) xs) h)
    where
      wider : (q : ℕ) → IsMarked (suc number) xs q → IsMarked number (x ∷ xs) q
      wider q (inl is) = inl (inr is)
      wider q (inr b) = let some = b.some in let place = b.is in inr (record { some = omega (arith, some); live = b.live; is = omega (arith, place) })

      further : (q : ℕ) × (p ≤ q) × IsMarked (suc number) xs q → (q : ℕ) × (p ≤ q) × IsMarked number (x ∷ xs) q
      further (q, below, is) = (q, below, wider q is)

  live_at_end : (at : ℕ) → at ≡ length whole → has bottom t ≡ true → drop at whole ≡ [] → Live at ≡ true
  live_at_end at is h e =
      and_of (nat_le at (length whole)) (reads_first reads_of writes_of (drop at whole) t || (not (some_writes writes_of (drop at whole) t) && has bottom t))
      (le-leb at (length whole) (omega (arith, is)))
      (ap (λ ys. reads_first reads_of writes_of ys t || (not (some_writes writes_of ys t) && has bottom t)) e ∙ h)

  pub marked_point : (xs : List TempInsn) (number at p : ℕ) → drop at whole ≡ xs → at + length xs ≡ length whole → IsMarked number xs p → present_from Live t p number at xs ≡ true
  marked_point [] number at p e count (inl m) = absurd m
  marked_point [] number at p e count (inr b) = absurd (let some = b.some in omega (arith, some))
  marked_point (x ∷ xs) number at p e count (inl (inl (inl (is, place)))) =
      either (present_at Live t p number at x) (present_from Live t p (suc number) (suc at) xs) (inl
      (either ((p == 2 * number) && (has_register (reads_of x) t || Live at)) ((p == 2 * number + 1) && (has_register (writes_of x) t || Live (suc at))) (inl
      (and_of (p == 2 * number) (has_register (reads_of x) t || Live at) (eq-eqb p (2 * number) place) (either (has_register (reads_of x) t) (Live at) (inl (names_of (reads_of x) t is)))))))
  marked_point (x ∷ xs) number at p e count (inl (inl (inr (is, place)))) =
      either (present_at Live t p number at x) (present_from Live t p (suc number) (suc at) xs) (inl
      (either ((p == 2 * number) && (has_register (reads_of x) t || Live at)) ((p == 2 * number + 1) && (has_register (writes_of x) t || Live (suc at))) (inr
      (and_of (p == 2 * number + 1) (has_register (writes_of x) t || Live (suc at)) (eq-eqb p (2 * number + 1) place) (either (has_register (writes_of x) t) (Live (suc at)) (inl (names_of (writes_of x) t is)))))))
  marked_point (x ∷ xs) number at p e count (inl (inr is)) =
      either (present_at Live t p number at x) (present_from Live t p (suc number) (suc at) xs) (inr
      (marked_point xs (suc number) (suc at) p (drop_first whole at x xs e).1 (omega (arith, count)) (inl is)))
  marked_point (x ∷ []) number at p e count (inr b) =
      let place = b.is in
      let end : Live (suc at) ≡ true = live_at_end (suc at) (omega (arith, count)) b.live (drop_first whole at x [] e).1 in
      either (present_at Live t p number at x) (present_from Live t p (suc number) (suc at) []) (inl
      (either ((p == 2 * number) && (has_register (reads_of x) t || Live at)) ((p == 2 * number + 1) && (has_register (writes_of x) t || Live (suc at))) (inr
      (and_of (p == 2 * number + 1) (has_register (writes_of x) t || Live (suc at)) (eq-eqb p (2 * number + 1) (omega (arith, place))) (either (has_register (writes_of x) t) (Live (suc at)) (inr end))))))
  marked_point (x ∷ y ∷ ys) number at p e count (inr b) =
      let place = b.is in
      either (present_at Live t p number at x) (present_from Live t p (suc number) (suc at) (y ∷ ys)) (inr
      (marked_point (y ∷ ys) (suc number) (suc at) p (drop_first whole at x (y ∷ ys) e).1 (omega (arith, count)) (inr (record { some = omega arith; live = b.live; is = omega (arith, place) }))))

-- ---- in the blocks

or_false : (b : Bool) → (b || false) ≡ b
or_false true = refl
or_false false = refl

or_assoc : (a b c : Bool) → ((a || b) || c) ≡ (a || (b || c))
or_assoc true b c = refl
or_assoc false b c = refl

count_cons : (c : List TempInsn) (bs : Blocks) → count_of (c ∷ bs) ≡ length c + count_of bs
count_cons c bs = sum_by-cons (λ block. length block) c bs

present_push : (live : (block at : ℕ) → Bool) (t p number block : ℕ) (bs : Blocks) (b : List TempInsn) →
    present_in live t p number block (bs ++ b ∷ []) ≡ (present_in live t p number block bs || present_from (live (block + length bs)) t p (number + count_of bs) 0 b)
present_push live t p number block [] b =
    let same : number ≡ number + count_of {I = TempInsn} [] = omega arith in
    or_false (present_from (live block) t p number 0 b)
    ∙ ap (λ k. present_from (live k) t p number 0 b) (let e : block ≡ block + 0 = omega arith in e)
    ∙ ap (λ n. present_from (live (block + 0)) t p n 0 b) same
present_push live t p number block (c ∷ bs) b =
    let more = count_cons c bs in
    ap (λ r. present_from (live block) t p number 0 c || r)
    (present_push live t p (number + length c) (suc block) bs b
    ∙ ap (λ k. present_in live t p (number + length c) (suc block) bs || present_from (live k) t p (number + length c + count_of bs) 0 b) (let e : suc block + length bs ≡ block + suc (length bs) = omega arith in e)
    ∙ ap (λ n. present_in live t p (number + length c) (suc block) bs || present_from (live (block + suc (length bs))) t p n 0 b) (let e : number + length c + count_of bs ≡ number + count_of (c ∷ bs) = omega (arith, more) in e))
    ∙ sym (or_assoc (present_from (live block) t p number 0 c) (present_in live t p (number + length c) (suc block) bs) (present_from (live (block + suc (length bs))) t p (number + count_of (c ∷ bs)) 0 b))

length_front : {A : Type 0} (i : ℕ) (xs : List A) → i ≤ length xs → length (take i xs) ≡ i
length_front zero xs few = refl
length_front (suc i) [] few = absurd (omega (arith, few))
length_front (suc i) (x ∷ xs) few = ap suc (length_front i xs (omega (arith, few)))

module _ (blocks : Blocks) (bottoms : List (List Bool)) (i : ℕ) (b : List TempInsn) (within : i < length blocks) (b_is : b ≡ get_or blocks i b) where
  front : take (i + 1) blocks ≡ take i blocks ++ b ∷ []
  front = take_more blocks i b within ∙ ap (λ x. take i blocks ++ x ∷ []) (sym b_is)

  there : slice_get blocks i ≡ Some b
  there = slice_get-get_or blocks i b within ∙ ap Some (sym b_is)

  pub count_next : count_of (take (i + 1) blocks) ≡ count_of (take i blocks) + length b
  count_next = ap count_of front ∙ count_push (take i blocks)
    where
      count_push : (bs : Blocks) → count_of (bs ++ b ∷ []) ≡ count_of bs + length b
      count_push [] = let one = count_cons b [] in omega (arith, one)
      count_push (c ∷ bs) = let more = count_cons c (bs ++ b ∷ []) in let old = count_cons c bs in let rest = count_push bs in omega (arith, more, old, rest)

  split : (t p : ℕ) → present_in (live_by blocks bottoms t) t p 0 0 (take (i + 1) blocks)
      ≡ (present_in (live_by blocks bottoms t) t p 0 0 (take i blocks) || present_from (live_in (Some b) (has_at bottoms i t) t) t p (count_of (take i blocks)) 0 b)
  split t p =
      ap (present_in (live_by blocks bottoms t) t p 0 0) front ∙ present_push (live_by blocks bottoms t) t p 0 0 (take i blocks) b
      ∙ ap (λ k. present_in (live_by blocks bottoms t) t p 0 0 (take i blocks) || present_from (live_by blocks bottoms t k) t p (0 + count_of (take i blocks)) 0 b)
      (let size = length_front i blocks (omega (arith, within)) in let e : 0 + length (take i blocks) ≡ i = omega (arith, size) in e)
      ∙ ap (λ n. present_in (live_by blocks bottoms t) t p 0 0 (take i blocks) || present_from (live_by blocks bottoms t i) t p n 0 b)
      (let e : 0 + count_of (take i blocks) ≡ count_of (take i blocks) = omega arith in e)
      ∙ ap (λ o. present_in (live_by blocks bottoms t) t p 0 0 (take i blocks) || present_from (live_in o (has_at bottoms i t) t) t p (count_of (take i blocks)) 0 b) there

  pub block_next : (number : ℕ) (bottom : List Bool) (first ends new : List ℕ) → number ≡ count_of (take i blocks) → bottom ≡ get_or bottoms i [] →
      IsRaised (IsPresentIn blocks bottoms i) first ends → IsRaised (IsOfBlock number b bottom) ends new → IsRaised (IsPresentIn blocks bottoms (i + 1)) first new
  block_next number bottom first ends new number_is bottom_is so r =
      by (λ t p. IsPresentIn blocks bottoms i t p ⊎ IsOfBlock number b bottom t p) (IsPresentIn blocks bottoms (i + 1)) first new
      (λ t p inside h. ⊎_elim (λ old. (p, omega arith, inl old)) (λ here. found t p here)
      (or_cases (present_in (live_by blocks bottoms t) t p 0 0 (take i blocks)) (present_from (live_in (Some b) (has_at bottoms i t) t) t p (count_of (take i blocks)) 0 b) (sym (split t p) ∙ h)))
      (λ t p m. split t p ∙ either (present_in (live_by blocks bottoms t) t p 0 0 (take i blocks)) (present_from (live_in (Some b) (has_at bottoms i t) t) t p (count_of (take i blocks)) 0 b)
      (⊎_elim (λ old. inl old) (λ here. inr (back t p here)) m))
      (both (IsPresentIn blocks bottoms i) (IsOfBlock number b bottom) first ends new so r)
    where
      same : (t p : ℕ) → present_from (live_in (Some b) (has_at bottoms i t) t) t p (count_of (take i blocks)) 0 b ≡ present_from (live_in (Some b) (has bottom t) t) t p number 0 b
      same t p =
          ap (λ s. present_from (live_in (Some b) (has s t) t) t p (count_of (take i blocks)) 0 b) (sym bottom_is)
          ∙ ap (λ n. present_from (live_in (Some b) (has bottom t) t) t p n 0 b) (sym number_is)

      found : (t p : ℕ) → present_from (live_in (Some b) (has_at bottoms i t) t) t p (count_of (take i blocks)) 0 b ≡ true → (q : ℕ) × (p ≤ q) × (IsPresentIn blocks bottoms i t q ⊎ IsOfBlock number b bottom t q)
      found t p h = wider (point_marked b bottom t b number 0 p refl (sym (same t p) ∙ h))
        where
          wider : (q : ℕ) × (p ≤ q) × (IsOfInsns number b t q ⊎ IsBehind number (number + length b) bottom t q) → (q : ℕ) × (p ≤ q) × (IsPresentIn blocks bottoms i t q ⊎ IsOfBlock number b bottom t q)
          wider (q, below, m) = (q, below, inr m)

      back : (t p : ℕ) → IsOfBlock number b bottom t p → present_from (live_in (Some b) (has_at bottoms i t) t) t p (count_of (take i blocks)) 0 b ≡ true
      back t p m = same t p ∙ marked_point b bottom t b number 0 p refl (omega arith) m

  pub few_next : (number bound : ℕ) → number ≡ count_of (take i blocks) → count_of blocks < bound → number + length b < bound
  few_next number bound number_is few =
      let next = count_next in
      let most = sum_by-take-le (λ (block : List TempInsn). length block) blocks (i + 1) in
      omega (arith, number_is, few, next, most)

pub ends_are : (blocks : Blocks) (bottoms : List (List Bool)) (temps : ℕ) (ends : List ℕ) → IsRaised (IsPresentIn blocks bottoms (length blocks)) (replicate temps 0) ends → AreEnds (wants_of blocks bottoms) temps ends
ends_are blocks bottoms temps ends so =
    let size = length-replicate {A = ℕ} temps 0 in
    let whole : take (length blocks) blocks ≡ blocks = take_all (length blocks) blocks (omega arith) in
    record {
      as_many = so.as_many ∙ size;
      present = λ t p inside h. ⊎_elim
          (λ (old : get_or ends t 0 ≡ get_or (replicate temps 0) t 0).
          let above = so.covers t p (omega (arith, inside, size)) (ap (present_in (live_by blocks bottoms t) t p 0 0) whole ∙ h) in
          let none = get_or-replicate {A = ℕ} temps t 0 0 inside in
          subst (λ q. present_in (live_by blocks bottoms t) t q 0 0 blocks ≡ true) (let e : p ≡ get_or ends t 0 = omega (arith, above, old, none) in e) h)
          (λ m. sym (ap (present_in (live_by blocks bottoms t) t (get_or ends t 0) 0 0) whole) ∙ m)
          (so.only t);
      last = λ t p inside h. so.covers t p (omega (arith, inside, size)) (ap (present_in (live_by blocks bottoms t) t p 0 0) whole ∙ h);
    }

-- in the words of the code
pub last_found : (blocks shown : Blocks) (bottoms shown_bottoms : List (List Bool)) (temps len : ℕ) (ends shown_ends new result : List ℕ) →
    shown ≡ blocks → shown_bottoms ≡ bottoms → shown_ends ≡ ends → ends ≡ replicate temps 0 → len ≡ length ends →
    IsRaised (IsPresentIn shown shown_bottoms (length shown)) shown_ends new → result ≡ take len (new ++ drop (length new) ends) →
    AreEnds (wants_of blocks bottoms) temps result
last_found blocks shown bottoms shown_bottoms temps len ends shown_ends new result shown_is bottoms_is ends_shown ends_are_none len_is raised result_is =
    let same : length new ≡ length ends = raised.as_many ∙ ap length ends_shown in
    subst (AreEnds (wants_of blocks bottoms) temps) (sym (result_is ∙ written_back new ends len len_is same))
    (ends_are blocks bottoms temps new
    (subst (λ bs. IsRaised (IsPresentIn bs bottoms (length bs)) (replicate temps 0) new) shown_is
    (subst (λ ss. IsRaised (IsPresentIn shown ss (length shown)) (replicate temps 0) new) bottoms_is
    (subst (λ es. IsRaised (IsPresentIn shown shown_bottoms (length shown)) es new) (ends_shown ∙ ends_are_none) raised))))
