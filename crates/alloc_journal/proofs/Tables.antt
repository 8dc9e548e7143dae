-- What is done to a table, one step after the other.
use Rattle.std.proofs.Common.{◌≡◌, ◌≢◌, ◌⊎◌, ℕ, zero, suc, ◌+◌, ◌<◌, ◌≤◌, ◌==◌, ◌&&◌, List, [], ◌∷◌, Bool, true, false, Option, Some, None, if◌then◌else◌, refl, sym, ap, ◌∙◌, inl, inr, subst, ⊎_elim, length, drop, get_or, arith}
use Rattle.std.specs.Prelude.{All, Contains, IfSome, nat_lt, zip, slice_get, slice_set}
use Rattle.std.specs.List.{list_all}
use Rattle.std.proofs.lemmas.Bool.{eqb-true, eq-eqb, ltb-true}
use Rattle.std.proofs.lemmas.Option.{none-some, same_Some, slice_get_within, get_or_from_slice_get}
use Rattle.std.proofs.lemmas.List.{at_drop_more, at_drop_all}
use Rattle.temp_ir.specs.declared.insn.TempInsn.{TempInsn}
use Rattle.temp_ir.specs.Insns.{reads_of, writes_of}
use Rattle.alloc_model.specs.declared.allocation.Transfer.{Transfer}
use Rattle.alloc_model.specs.Faithful.{given_registers, IsGivenRegister}
use Rattle.alloc_rules.specs.Visits.{takes_away, registers_written}
use Rattle.alloc_plain_lists.proofs.Registers.{few}
use Rattle.alloc_plain_lists.proofs.Counts.{nothing, single}
use Rattle.alloc_journal.specs.model.Holders.{Holders, holder_in, is_in, register_from, register_in, behind_move, behind_moves, cleared, left_below, pairs_written}
use Rattle.alloc_journal.specs.model.Leaving as leaving
use Rattle.alloc_journal.specs.model.Leaving.{gone, sooner, soonest}

-- ---- the register of a temporary

pub register_next : (hs : Holders) (r t : ℕ) (o : Option ℕ) → o ≡ holder_in hs r → r < length hs → is_in o t ≡ false → register_from r (drop r hs) t ≡ register_from (r + 1) (drop (r + 1) hs) t
register_next hs r t o is within other =
    at_drop_more (λ ys. register_from r ys t) hs r None within
    ∙ ap (λ b. if b then Some r else register_from (suc r) (drop (r + 1) hs) t) (ap (λ p. is_in p t) (sym is) ∙ other)
    ∙ ap (λ n. register_from n (drop (r + 1) hs) t) (let e : suc r ≡ r + 1 = omega arith in e)

pub register_found : (hs : Holders) (r t : ℕ) (o : Option ℕ) → o ≡ holder_in hs r → r < length hs → is_in o t ≡ true → register_from r (drop r hs) t ≡ Some r
register_found hs r t o is within found =
    at_drop_more (λ ys. register_from r ys t) hs r None within
    ∙ ap (λ b. if b then Some r else register_from (suc r) (drop (r + 1) hs) t) (ap (λ p. is_in p t) (sym is) ∙ found)

pub register_end : (hs : Holders) (r t : ℕ) → length hs ≤ r → register_from r (drop r hs) t ≡ None
register_end hs r t past = at_drop_all (λ ys. register_from r ys t) hs r past

-- one that a register has is found
pub some_register : (k : ℕ) (hs : Holders) (r t : ℕ) → is_in (holder_in hs r) t ≡ true → (q : ℕ) × (register_from k hs t ≡ Some q)
some_register k [] r t e = absurd (cc)
some_register k (o ∷ hs) r t e = by (is_in o t) refl r e (λ r e. some_register (suc k) hs r t e)
  where
    by : (c : Bool) → is_in o t ≡ c → (r : ℕ) → is_in (holder_in (o ∷ hs) r) t ≡ true → ((r : ℕ) → is_in (holder_in hs r) t ≡ true → (q : ℕ) × (register_from (suc k) hs t ≡ Some q)) → (q : ℕ) × (register_from k (o ∷ hs) t ≡ Some q)
    by true f r e others = (k, ap (λ b. if b then Some k else register_from (suc k) hs t) f)
    by false f zero e others = absurd (let clash : true ≡ false = sym e ∙ f in cc)
    by false f (suc r) e others =
        let rest = others r e in
        (rest.0, ap (λ b. if b then Some k else register_from (suc k) hs t) f ∙ rest.1)

-- and what is found is there
pub register_where : (k : ℕ) (hs : Holders) (t q : ℕ) → register_from k hs t ≡ Some q → (r : ℕ) × (q ≡ k + r) × (r < length hs) × (is_in (holder_in hs r) t ≡ true)
register_where k [] t q e = absurd (cc)
register_where k (o ∷ hs) t q e = by (is_in o t) refl (λ f. register_where (suc k) hs t q f)
  where
    by : (c : Bool) → is_in o t ≡ c → (register_from (suc k) hs t ≡ Some q → (r : ℕ) × (q ≡ suc k + r) × (r < length hs) × (is_in (holder_in hs r) t ≡ true)) → (r : ℕ) × (q ≡ k + r) × (r < length (o ∷ hs)) × (is_in (holder_in (o ∷ hs) r) t ≡ true)
    by true f others =
        let same = same_Some k q (sym (ap (λ b. if b then Some k else register_from (suc k) hs t) f) ∙ e) in
        (0, omega (arith, same), omega arith, f)
    by false f others =
        let rest = others (sym (ap (λ b. if b then Some k else register_from (suc k) hs t) f) ∙ e) in
        let place = rest.1 in
        let within = rest.2 in
        (suc rest.0, omega (arith, place), omega (arith, within), rest.3)

pub in_is : (o : Option ℕ) (t : ℕ) → is_in o t ≡ true → o ≡ Some t
in_is None t e = absurd (cc)
in_is (Some u) t e = ap Some (eqb-true u t e)

pub is_there : (o : Option ℕ) (t : ℕ) → o ≡ Some t → is_in o t ≡ true
is_there o t e = ap (λ p. is_in p t) e ∙ eq-eqb t t refl

pub register_has : (hs : Holders) (t q : ℕ) → register_in hs t ≡ Some q → (q < length hs) × (holder_in hs q ≡ Some t)
register_has hs t q e =
    let found = register_where 0 hs t q e in
    let place = found.1 in
    let within = found.2 in
    (omega (arith, place, within), ap (holder_in hs) (let same : q ≡ found.0 = omega (arith, place) in same) ∙ in_is (holder_in hs found.0) t found.3)

pub register_none : (hs : Holders) (t : ℕ) → register_in hs t ≡ None → (r : ℕ) → ¬ (holder_in hs r ≡ Some t)
register_none hs t none r e =
    let found = some_register 0 hs r t (is_there (holder_in hs r) t e) in
    none-some found.0 (sym none ∙ found.1)

pub held_there : (hs : Holders) (r t : ℕ) (o : Option ℕ) → o ≡ holder_in hs r → is_in o t ≡ true → None ≡ leaving.unless_held (register_in hs t) t
held_there hs r t o is e =
    let found = some_register 0 hs r t (ap (λ p. is_in p t) (sym is) ∙ e) in
    sym (ap (λ p. leaving.unless_held p t) found.1)

-- ---- transfers

pub moves_next : (xs : List Transfer) (i : ℕ) (x : Transfer) (hs ks : Holders) → x ≡ get_or xs i x → i < length xs → ks ≡ behind_move x hs → behind_moves (drop i xs) hs ≡ behind_moves (drop (i + 1) xs) ks
moves_next xs i x hs ks is within step =
    at_drop_more (λ ys. behind_moves ys hs) xs i x within
    ∙ ap (λ y. behind_moves (drop (i + 1) xs) (behind_move y hs)) (sym is)
    ∙ ap (behind_moves (drop (i + 1) xs)) (sym step)

pub moves_end : (xs : List Transfer) (i : ℕ) (hs : Holders) → length xs ≤ i → behind_moves (drop i xs) hs ≡ hs
moves_end xs i hs past = at_drop_all (λ ys. behind_moves ys hs) xs i past

-- ---- what an instruction takes away

pub left_begins : (x : TempInsn) (hs : Holders) → hs ≡ left_below x 0 hs
unfolding left_below
left_begins x hs = refl

left_more : (x : TempInsn) (r : ℕ) (hs : Holders) → left_below x (suc r) hs ≡ cleared (takes_away x r) r (left_below x r hs)
unfolding left_below
left_more x r hs = refl

pub left_next : (x : TempInsn) (r : ℕ) (first hs ks : Holders) → ks ≡ cleared (takes_away x r) r hs → hs ≡ left_below x r first → ks ≡ left_below x (r + 1) first
left_next x r first hs ks step so_far =
    step ∙ ap (cleared (takes_away x r) r) so_far ∙ sym (left_more x r first)
    ∙ ap (λ n. left_below x n first) (let e : suc r ≡ r + 1 = omega arith in e)

-- ---- what it writes

pub none_written : (x : TempInsn) (rs : List ℕ) → None ≡ slice_get (writes_of x) 0 → [] ≡ pairs_written x rs
none_written x rs first = sym (ap (λ ts. zip ts (registers_written rs x)) (nothing (writes_of x) first))

none_left : (rs : List ℕ) (n : ℕ) → None ≡ slice_get rs n → drop n rs ≡ []
none_left [] zero e = refl
none_left [] (suc n) e = refl
none_left (r ∷ rs) zero e = absurd (none-some r e)
none_left (r ∷ rs) (suc n) e = none_left rs n e

one_left : (rs : List ℕ) (n r : ℕ) → Some r ≡ slice_get rs n → drop n rs ≡ r ∷ drop (suc n) rs
one_left [] n r e = absurd (none-some r (sym e))
one_left (q ∷ rs) zero r e = ap (λ p. p ∷ rs) (sym (same_Some r q e))
one_left (q ∷ rs) (suc n) r e = one_left rs n r e

pub none_stated : (x : TempInsn) (rs : List ℕ) (n t : ℕ) → Some t ≡ slice_get (writes_of x) 0 → n ≡ length (reads_of x) → None ≡ slice_get rs n → [] ≡ pairs_written x rs
none_stated x rs n t first many none =
    sym (ap (λ ts. zip ts (registers_written rs x)) (single (writes_of x) t (few x).1 first)
    ∙ ap (λ k. zip (t ∷ []) (drop k rs)) (sym many)
    ∙ ap (zip (t ∷ [])) (none_left rs n none))

pub one_written : (x : TempInsn) (rs : List ℕ) (n t r : ℕ) → Some t ≡ slice_get (writes_of x) 0 → n ≡ length (reads_of x) → Some r ≡ slice_get rs n → (t, r) ∷ [] ≡ pairs_written x rs
one_written x rs n t r first many one =
    sym (ap (λ ts. zip ts (registers_written rs x)) (single (writes_of x) t (few x).1 first)
    ∙ ap (λ k. zip (t ∷ []) (drop k rs)) (sym many)
    ∙ ap (zip (t ∷ [])) (one_left rs n r one))

-- ---- given registers

and_first : (b c : Bool) → (b && c) ≡ true → b ≡ true
and_first true c e = refl
and_first false c e = absurd (cc)

and_second : (b c : Bool) → (b && c) ≡ true → c ≡ true
and_second true c e = e
and_second false c e = absurd (cc)

all_so : (p : ℕ → Bool) (xs : List ℕ) (r : ℕ) → list_all p xs ≡ true → Contains xs r → p r ≡ true
all_so p [] r all (k, within, is) = absurd (omega (arith, within))
all_so p (x ∷ xs) r all (zero, within, is) = ap p (sym is) ∙ and_first (p x) (list_all p xs) all
all_so p (x ∷ xs) r all (suc k, within, is) = all_so p xs r (and_second (p x) (list_all p xs) all) (k, omega (arith, within), is)

all_low : list_all (λ r. nat_lt r 26) given_registers ≡ true
all_low = refl

pub given_low : (r : ℕ) → IsGivenRegister r → r < 26
given_low r given = ltb-true r 26 (all_so (λ q. nat_lt q 26) given_registers r all_low given)

pub first_low : (r : ℕ) (rs : List ℕ) → All IsGivenRegister (r ∷ rs) → r < 26
first_low r rs all = given_low r (all 0 r (omega arith))

pub second_low : (q r : ℕ) (rs : List ℕ) → All IsGivenRegister (q ∷ r ∷ rs) → r < 26
second_low q r rs all = given_low r (all 1 r (omega arith))

pub some_low : (rs : List ℕ) (n : ℕ) (o : Option ℕ) → o ≡ slice_get rs n → All IsGivenRegister rs → IfSome o (λ r. r < 26)
some_low rs n None is all = tt
some_low rs n (Some r) is all =
    given_low r (subst IsGivenRegister (get_or_from_slice_get rs n r r (sym is)) (all n r (slice_get_within rs n r (sym is))))

-- ---- which one is next

pub soonest_begins : (from : ℕ) (found : Option ℕ) (b h : Holders) → found ≡ soonest from found b h 0
unfolding soonest
soonest_begins from found b h = refl

soonest_more : (from : ℕ) (found : Option ℕ) (b h : Holders) (r : ℕ) → soonest from found b h (suc r) ≡ sooner from (soonest from found b h r) (gone (holder_in b r) h)
unfolding soonest
soonest_more from found b h r = refl

pub soonest_next : (from : ℕ) (found best now o : Option ℕ) (b h : Holders) (r : ℕ) → o ≡ gone (holder_in b r) h → now ≡ sooner from best o → best ≡ soonest from found b h r → now ≡ soonest from found b h (r + 1)
soonest_next from found best now o b h r is step so_far =
    step ∙ ap (sooner from best) is ∙ ap (λ p. sooner from p (gone (holder_in b r) h)) so_far ∙ sym (soonest_more from found b h r)
    ∙ ap (soonest from found b h) (let e : suc r ≡ r + 1 = omega arith in e)
