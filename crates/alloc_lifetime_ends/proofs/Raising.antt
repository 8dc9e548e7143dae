-- Last points that are raised step by step.
use Rattle.std.proofs.Common.{◌≡◌, ◌≢◌, ℕ, zero, suc, ◌+◌, ◌*◌, ◌-◌, ◌<◌, ◌≤◌, ◌⊎◌, Bool, true, false, List, [], ◌∷◌, refl, sym, ap, ◌∙◌, subst, inl, inr, ⊎_elim, length, get_or, set, arith, length-set, get_or-set_same, get_or-set_other, All, Option, Some, None}
use Rattle.std.specs.Prelude.{slice_get, Contains, max, IfSome}
use Rattle.std.proofs.lemmas.Bool.{cases_lt, cases_eq}
use Rattle.std.proofs.lemmas.List.{get_or_past}
use Rattle.std.proofs.lemmas.Option.{slice_get_within, get_or_from_slice_get, none-some, same_Some}
use Rattle.bk_bits.specs.Sets.{has, IsNext, HasNone}
use Rattle.bk_ilist.specs.Listing.{items}
use Rattle.temp_ir.specs.declared.insn.TempInsn.{TempInsn}
use Rattle.temp_ir.specs.Insns.{reads_of, writes_of}
use Rattle.alloc_lifetime_ends.proofs.Few.{few}
use Rattle.alloc_lifetime_ends.specs.model.Raised.{IsOfInsn, IsOfInsns, IsBehind, IsOfBlock, IsRaised}

-- ---- any points

pub none_raised : (M : ℕ → ℕ → Type 0) (ends : List ℕ) → ((t p : ℕ) → M t p → ⊥) → IsRaised M ends ends
none_raised M ends never = record {
  as_many = refl;
  grows = λ t. omega arith;
  covers = λ t p within m. absurd (never t p m);
  only = λ t. inl refl;
}

pub by : (M N : ℕ → ℕ → Type 0) (old new : List ℕ) → ((t p : ℕ) → t < length old → N t p → (q : ℕ) × (p ≤ q) × M t q) → ((t p : ℕ) → M t p → N t p) → IsRaised M old new → IsRaised N old new
by M N old new there back r = record {
  as_many = r.as_many;
  grows = r.grows;
  covers = λ t p within n. let found = there t p within n in let above = r.covers t found.0 within found.2 in let below = found.1 in omega (arith, above, below);
  only = λ t. ⊎_elim (λ same. inl same) (λ m. inr (back t (get_or new t 0) m)) (r.only t);
}

pub both : (M N : ℕ → ℕ → Type 0) (old mid new : List ℕ) → IsRaised M old mid → IsRaised N mid new → IsRaised (λ t p. M t p ⊎ N t p) old new
both M N old mid new r s = record {
  as_many = s.as_many ∙ r.as_many;
  grows = λ t. let first = r.grows t in let second = s.grows t in omega (arith, first, second);
  covers = λ t p within. λ m. ⊎_elim
      (λ one. let first = r.covers t p within one in let second = s.grows t in omega (arith, first, second))
      (λ two. let count = r.as_many in s.covers t p (omega (arith, within, count)) two) m;
  only = λ t. ⊎_elim
      (λ (same : get_or new t 0 ≡ get_or mid t 0). ⊎_elim (λ old_same. inl (same ∙ old_same)) (λ m. inr (inl (subst (M t) (sym same) m))) (r.only t))
      (λ n. inr (inr n))
      (s.only t);
}

-- ---- one temporary

pub one_raised : (ends : List ℕ) (temp point v : ℕ) → temp < length ends → v ≡ max (get_or ends temp 0) point → IsRaised (λ t p. (t ≡ temp) × (p ≡ point)) ends (set ends temp v)
one_raised ends temp point v within is =
    let here : get_or (set ends temp v) temp 0 ≡ v = get_or-set_same ends temp v 0 within in
    record {
      as_many = length-set ends temp v;
      grows = λ t. ⊎_elim
          (λ (same : t ≡ temp). subst (λ u. get_or ends u 0 ≤ get_or (set ends temp v) u 0) (sym same) (omega (arith, here, is)))
          (λ (apart : t ≢ temp). let other = get_or-set_other ends temp t v 0 apart in omega (arith, other))
          (cases_eq t temp);
      covers = λ t p inside (same, place). subst (λ u. p ≤ get_or (set ends temp v) u 0) (sym same) (omega (arith, here, is, place));
      only = λ t. ⊎_elim
          (λ (same : t ≡ temp). ⊎_elim
          (λ (less : get_or ends temp 0 < point). inr (same, ap (λ u. get_or (set ends temp v) u 0) same ∙ here ∙ (let e : v ≡ point = omega (arith, is, less) in e)))
          (λ more. inl (ap (λ u. get_or (set ends temp v) u 0) same ∙ here ∙ (let e : v ≡ get_or ends temp 0 = omega (arith, is, more) in e) ∙ ap (λ u. get_or ends u 0) (sym same)))
          (cases_lt (get_or ends temp 0) point))
          (λ (apart : t ≢ temp). inl (get_or-set_other ends temp t v 0 apart))
          (cases_eq t temp);
    }

pub named_none : (ends : List ℕ) (point : ℕ) → IsRaised (λ t p. (None ≡ Some t) × (p ≡ point)) ends ends
named_none ends point = none_raised (λ t p. (None ≡ Some t) × (p ≡ point)) ends (λ t p (clash, is). none-some t clash)

pub named_some : (old new : List ℕ) (temp point : ℕ) → IsRaised (λ t p. (t ≡ temp) × (p ≡ point)) old new → IsRaised (λ t p. (Some temp ≡ Some t) × (p ≡ point)) old new
named_some old new temp point r =
    by (λ t p. (t ≡ temp) × (p ≡ point)) (λ t p. (Some temp ≡ Some t) × (p ≡ point)) old new
    (λ t p within (same, is). (p, omega arith, (sym (same_Some temp t same), is))) (λ t p (same, is). (ap Some (sym same), is)) r

-- ---- an instruction

pub named_inside : (bound k : ℕ) (xs : List ℕ) (o : Option ℕ) → o ≡ slice_get xs k → All (λ t. t < bound) xs → IfSome o (λ t. t < bound)
named_inside bound k xs None is all = tt
named_inside bound k xs (Some t) is all = subst (λ u. u < bound) (get_or_from_slice_get xs k t t (sym is)) (all k t (slice_get_within xs k t (sym is)))

module _ (xs : List ℕ) where
  two_named : (t : ℕ) → length xs ≤ 2 → Contains xs t → (slice_get xs 0 ≡ Some t) ⊎ (slice_get xs 1 ≡ Some t)
  two_named t most (k, within, is) = in_two xs k most within is
    where
      in_two : (ys : List ℕ) (k : ℕ) → length ys ≤ 2 → k < length ys → get_or ys k t ≡ t → (slice_get ys 0 ≡ Some t) ⊎ (slice_get ys 1 ≡ Some t)
      in_two [] k most within is = absurd (omega (arith, within))
      in_two (y ∷ ys) zero most within is = inl (ap Some is)
      in_two (y ∷ []) (suc k) most within is = absurd (omega (arith, within))
      in_two (y ∷ z ∷ ys) (suc zero) most within is = inr (ap Some is)
      in_two (y ∷ z ∷ ys) (suc (suc k)) most within is = absurd (omega (arith, most, within))

  found : (t k : ℕ) → slice_get xs k ≡ Some t → Contains xs t
  found t k is = (k, slice_get_within xs k t is, get_or_from_slice_get xs k t t is)

pub insn_raised : (x : TempInsn) (number : ℕ) (ends one two three : List ℕ) (a b w : Option ℕ) → a ≡ slice_get (reads_of x) 0 → b ≡ slice_get (reads_of x) 1 → w ≡ slice_get (writes_of x) 0 →
    IsRaised (λ t p. (a ≡ Some t) × (p ≡ 2 * number)) ends one → IsRaised (λ t p. (b ≡ Some t) × (p ≡ 2 * number)) one two → IsRaised (λ t p. (w ≡ Some t) × (p ≡ 2 * number + 1)) two three →
    IsRaised (IsOfInsn number x) ends three
insn_raised x number ends one two three a b w a_is b_is w_is r s u =
    let most = few x in
    by (λ t p. (((a ≡ Some t) × (p ≡ 2 * number)) ⊎ ((b ≡ Some t) × (p ≡ 2 * number))) ⊎ ((w ≡ Some t) × (p ≡ 2 * number + 1))) (IsOfInsn number x) ends three
    (λ t p within m. (p, omega arith, there t p most.0 most.1 m))
    back
    (both (λ t p. ((a ≡ Some t) × (p ≡ 2 * number)) ⊎ ((b ≡ Some t) × (p ≡ 2 * number))) (λ t p. (w ≡ Some t) × (p ≡ 2 * number + 1)) ends two three
    (both (λ t p. (a ≡ Some t) × (p ≡ 2 * number)) (λ t p. (b ≡ Some t) × (p ≡ 2 * number)) ends one two r s) u)
  where
    there : (t p : ℕ) → length (reads_of x) ≤ 2 → length (writes_of x) ≤ 1 → IsOfInsn number x t p → (((a ≡ Some t) × (p ≡ 2 * number)) ⊎ ((b ≡ Some t) × (p ≡ 2 * number))) ⊎ ((w ≡ Some t) × (p ≡ 2 * number + 1))
    there t p reads writes (inl (has, is)) = ⊎_elim (λ first. inl (inl (a_is ∙ first, is))) (λ second. inl (inr (b_is ∙ second, is))) (two_named (reads_of x) t reads has)
    there t p reads writes (inr (has, is)) = ⊎_elim (λ first. inr (w_is ∙ first, is))
        (λ second. absurd (let far = slice_get_within (writes_of x) 1 t second in omega (arith, far, writes))) (two_named (writes_of x) t (omega (arith, writes)) has)

    back : (t p : ℕ) → (((a ≡ Some t) × (p ≡ 2 * number)) ⊎ ((b ≡ Some t) × (p ≡ 2 * number))) ⊎ ((w ≡ Some t) × (p ≡ 2 * number + 1)) → IsOfInsn number x t p
    back t p (inl (inl (first, is))) = inl (found (reads_of x) t 0 (sym a_is ∙ first), is)
    back t p (inl (inr (second, is))) = inl (found (reads_of x) t 1 (sym b_is ∙ second), is)
    back t p (inr (first, is)) = inr (found (writes_of x) t 0 (sym w_is ∙ first), is)

-- ---- the instructions of a block

-- what is left leads to the whole
pub insns_next : (number next whole_number : ℕ) (x : TempInsn) (rest all : List (ℕ × TempInsn)) (whole : List TempInsn) (id : ℕ) (first ends one : List ℕ) → all ≡ (id, x) ∷ rest → next ≡ number + 1 →
    IsRaised (IsOfInsn number x) ends one →
    ((new : List ℕ) → IsRaised (IsOfInsns number (items all)) ends new → IsRaised (IsOfInsns whole_number whole) first new) →
    (new : List ℕ) → IsRaised (IsOfInsns next (items rest)) one new → IsRaised (IsOfInsns whole_number whole) first new
insns_next number next whole_number x rest all whole id first ends one is step r leads new s =
    leads new (subst (λ ps. IsRaised (IsOfInsns number (items ps)) ends new) (sym is)
    (both (IsOfInsn number x) (IsOfInsns (suc number) (items rest)) ends one new r
    (subst (λ n. IsRaised (IsOfInsns n (items rest)) one new) (let e : next ≡ suc number = omega (arith, step) in e) s)))

pub insns_done : (number whole_number : ℕ) (left : List (ℕ × TempInsn)) (whole : List TempInsn) (first ends : List ℕ) → left ≡ [] →
    ((new : List ℕ) → IsRaised (IsOfInsns number (items left)) ends new → IsRaised (IsOfInsns whole_number whole) first new) → IsRaised (IsOfInsns whole_number whole) first ends
insns_done number whole_number left whole first ends none leads =
    leads ends (subst (λ ps. IsRaised (IsOfInsns number (items ps)) ends ends) (sym none) (none_raised (IsOfInsns number []) ends (λ t p m. m)))

pub few_here : (next sum bound id : ℕ) (x : TempInsn) (all rest : List (ℕ × TempInsn)) → all ≡ (id, x) ∷ rest → next + length (items all) ≡ sum → sum < bound → next < bound
few_here next sum bound id x all rest is total few =
    let more : length (items all) ≡ suc (length (items rest)) = ap (λ ps. length (items ps)) is in omega (arith, total, few, more)

pub left_next : (next sum id after : ℕ) (x : TempInsn) (all rest : List (ℕ × TempInsn)) → all ≡ (id, x) ∷ rest → next + length (items all) ≡ sum → after ≡ next + 1 → after + length (items rest) ≡ sum
left_next next sum id after x all rest is total step =
    let more : length (items all) ≡ suc (length (items rest)) = ap (λ ps. length (items ps)) is in omega (arith, total, step, more)

-- ---- a set

within_set : (set : List Bool) (t : ℕ) → has set t ≡ true → t < length set
within_set set t h = ⊎_elim (λ below. below) (λ past. absurd (let none = get_or_past set t false past in cc)) (cases_lt t (length set))

pub next_inside : (set : List Bool) (from t bound : ℕ) → IsNext set from t → length set ≤ bound → t < bound
next_inside set from t bound next most = let within = within_set set t next.1 in omega (arith, within, most)

pub next_fits : (set : List Bool) (from t bound : ℕ) → IsNext set from t → length set ≤ bound → bound < 4294967296 → t + 1 < 4294967296
next_fits set from t bound next most few = let inside = next_inside set from t bound next most in omega (arith, inside, few)

pub set_next : (set : List Bool) (from next t point : ℕ) (first ends new : List ℕ) → IsNext set from t → next ≡ t + 1 → IsRaised (λ u p. (u ≡ t) × (p ≡ point)) ends new →
    IsRaised (λ u p. (has set u ≡ true) × (u < from) × (p ≡ point)) first ends → IsRaised (λ u p. (has set u ≡ true) × (u < next) × (p ≡ point)) first new
set_next set from next t point first ends new is step r so =
    by (λ u p. ((has set u ≡ true) × (u < from) × (p ≡ point)) ⊎ ((u ≡ t) × (p ≡ point))) (λ u p. (has set u ≡ true) × (u < next) × (p ≡ point)) first new
    (λ u p within (h, below, place). (p, omega arith, pick u p h below place))
    back
    (both (λ u p. (has set u ≡ true) × (u < from) × (p ≡ point)) (λ u p. (u ≡ t) × (p ≡ point)) first ends new so r)
  where
    pick : (u p : ℕ) → has set u ≡ true → u < next → p ≡ point → ((has set u ≡ true) × (u < from) × (p ≡ point)) ⊎ ((u ≡ t) × (p ≡ point))
    pick u p h below place = ⊎_elim (λ early. inl (h, early, place))
        (λ late. ⊎_elim (λ before. absurd (let none = is.2 u late before in cc)) (λ behind. inr ((let e : u ≡ t = omega (arith, behind, below, step) in e), place)) (cases_lt u t))
        (cases_lt u from)

    back : (u p : ℕ) → ((has set u ≡ true) × (u < from) × (p ≡ point)) ⊎ ((u ≡ t) × (p ≡ point)) → (has set u ≡ true) × (u < next) × (p ≡ point)
    back u p (inl (h, below, place)) = (h, (let low = is.0 in omega (arith, below, low, step)), place)
    back u p (inr (same, place)) = (ap (has set) same ∙ is.1, omega (arith, same, step), place)

pub set_begins : (set : List Bool) (point : ℕ) (ends : List ℕ) → IsRaised (λ u p. (has set u ≡ true) × (u < 0) × (p ≡ point)) ends ends
set_begins set point ends = none_raised (λ u p. (has set u ≡ true) × (u < 0) × (p ≡ point)) ends (λ u p (h, below, place). omega (arith, below))

pub set_done : (set : List Bool) (from point : ℕ) (first ends : List ℕ) → HasNone set from → IsRaised (λ u p. (has set u ≡ true) × (u < from) × (p ≡ point)) first ends →
    IsRaised (λ u p. (has set u ≡ true) × (p ≡ point)) first ends
set_done set from point first ends none so =
    by (λ u p. (has set u ≡ true) × (u < from) × (p ≡ point)) (λ u p. (has set u ≡ true) × (p ≡ point)) first ends
    (λ u p within (h, place). (p, omega arith, (h, ⊎_elim (λ early. early) (λ late. absurd (let no = none u late in cc)) (cases_lt u from), place)))
    (λ u p (h, below, place). (h, place)) so

-- ---- a block

pub bottom_raised : (number next point : ℕ) (bottom : List Bool) (old new : List ℕ) → number < next → point ≡ 2 * next - 1 → IsRaised (λ u p. (has bottom u ≡ true) × (p ≡ point)) old new → IsRaised (IsBehind number next bottom) old new
bottom_raised number next point bottom old new some is r =
    by (λ u p. (has bottom u ≡ true) × (p ≡ point)) (IsBehind number next bottom) old new
    (λ u p within b. (p, omega arith, (b.live, (let place = b.is in omega (arith, place, is)))))
    (λ u p (h, place). record { some = some; live = h; is = omega (arith, place, is, some) }) r

pub bottom_same : (number next : ℕ) (bottom : List Bool) (ends : List ℕ) → next ≤ number → IsRaised (IsBehind number next bottom) ends ends
bottom_same number next bottom ends none = none_raised (IsBehind number next bottom) ends (λ t p b. let some = b.some in omega (arith, some, none))

pub block_raised : (number next : ℕ) (insns : List TempInsn) (bottom : List Bool) (ends one new : List ℕ) → next ≡ number + length insns → IsRaised (IsOfInsns number insns) ends one →
    IsRaised (IsBehind number next bottom) one new → IsRaised (IsOfBlock number insns bottom) ends new
block_raised number next insns bottom ends one new is r s =
    both (IsOfInsns number insns) (IsBehind number (number + length insns) bottom) ends one new r (subst (λ n. IsRaised (IsBehind number n bottom) one new) is s)
