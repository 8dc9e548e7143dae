-- Lists that rise and have the same elements are the same; so what is said of lifetimes, needs and scans says which they
-- are.
use Rattle.std.proofs.Common.{◌≡◌, ℕ, zero, suc, ◌<◌, ◌≤◌, inl, inr, List, [], ◌∷◌, refl, sym, ap, ◌∙◌, subst, length, arith, Some, slice_get}
use Rattle.std.specs.Prelude.{◌⊎◌, Contains, unwrap_or, slice_index_or}
use Rattle.std.proofs.lemmas.List.{ext_get_or}
use Rattle.std.proofs.lemmas.Option.{slice_get_within, get_or_from_slice_get, none-some}
use Rattle.temp_ir.specs.Programs.{TempFn}
use Rattle.alloc_model.specs.Needs.{IsRelied, IsStored, IsWritten}
use Rattle.alloc_rules.specs.declared.scan.Lifetimes.{Lifetimes}
use Rattle.alloc_rules.specs.declared.scan.Scanned.{Scanned}
use Rattle.alloc_rules.specs.Scan.{AreLifetimes, AreScanned, AreSets, ListsAreUnique, lifetime_parts, refs_of, plan_of_scanned}
use Rattle.alloc_rules.proofs.Sets.{unique}

module _ {A : Type 0} (low high : A → ℕ) where
  abbrev pub In : List A → A → Type 0
  In xs x = (j : ℕ) × (slice_get xs j ≡ Some x)

  abbrev pub Rises : List A → Type 0
  Rises xs = (k : ℕ) (a b : A) → slice_get xs k ≡ Some a → slice_get xs (suc k) ≡ Some b → high a < low b

  abbrev pub IsOrdered : List A → Type 0
  IsOrdered xs = (x : A) → In xs x → low x ≤ high x

  some_same : (x y : A) → Some x ≡ Some y → x ≡ y
  some_same x y e = ap (λ o. unwrap_or o x) e

  -- what follows an element lies above it
  above : (x : A) (xs : List A) → Rises (x ∷ xs) → IsOrdered (x ∷ xs) → (j : ℕ) (y : A) → slice_get xs j ≡ Some y → high x < low y
  above x [] rises ordered j y e = absurd (none-some y e)
  above x (z ∷ zs) rises ordered zero y e = rises 0 x y refl e
  above x (z ∷ zs) rises ordered (suc j) y e =
      let first : high x < low z = rises 0 x z refl refl in
      let middle : low z ≤ high z = ordered z (1, refl) in
      let rest : high z < low y = above z zs (λ k a b. rises (suc k) a b) (λ w there. ordered w (suc there.0, there.1)) j y e in
      omega (arith, first, middle, rest)

  head_or_above : (x y : A) (ys : List A) → Rises (y ∷ ys) → IsOrdered (y ∷ ys) → In (y ∷ ys) x → (y ≡ x) ⊎ (high y < low x)
  head_or_above x y ys rises ordered (zero, e) = inl (some_same y x e)
  head_or_above x y ys rises ordered (suc j, e) = inr (above y ys rises ordered j x e)

  heads_same : (x y : A) → low x ≤ high x → low y ≤ high y → (y ≡ x) ⊎ (high y < low x) → (x ≡ y) ⊎ (high x < low y) → x ≡ y
  heads_same x y ox oy (inl e) there = sym e
  heads_same x y ox oy (inr below) (inl e) = e
  heads_same x y ox oy (inr below) (inr over) = absurd (omega (arith, ox, oy, below, over))

  tail_in : (x y z : A) (ys : List A) → x ≡ y → low x ≤ high x → high x < low z → In (y ∷ ys) z → In ys z
  tail_in x y z ys e ox over (zero, is) =
      absurd (let same : low z ≡ low x = ap low (sym (some_same y z is) ∙ sym e) in omega (arith, ox, over, same))
  tail_in x y z ys e ox over (suc j, is) = (j, is)

  pub same_list : (xs ys : List A) → Rises xs → Rises ys → IsOrdered xs → IsOrdered ys →
      ((x : A) → In xs x → In ys x) → ((x : A) → In ys x → In xs x) → xs ≡ ys
  same_list [] [] rx ry ox oy there back = refl
  same_list [] (y ∷ ys) rx ry ox oy there back = absurd (none-some y (back y (0, refl)).1)
  same_list (x ∷ xs) [] rx ry ox oy there back = absurd (none-some x (there x (0, refl)).1)
  same_list (x ∷ xs) (y ∷ ys) rx ry ox oy there back =
      let e : x ≡ y = heads_same x y (ox x (0, refl)) (oy y (0, refl)) (head_or_above x y ys ry oy (there x (0, refl))) (head_or_above y x xs rx ox (back y (0, refl))) in
      let rest : xs ≡ ys = same_list xs ys (λ k a b. rx (suc k) a b) (λ k a b. ry (suc k) a b)
      (λ w i. ox w (suc i.0, i.1)) (λ w i. oy w (suc i.0, i.1))
      (λ z i. tail_in x y z ys e (ox x (0, refl)) (above x xs rx ox i.0 z i.1) (there z (suc i.0, i.1)))
      (λ z i. tail_in y x z xs (sym e) (oy y (0, refl)) (above y ys ry oy i.0 z i.1) (back z (suc i.0, i.1))) in
      ap (λ z. z ∷ xs) e ∙ ap (λ zs. y ∷ zs) rest

-- ---- elements, in the two forms

get_some : {A : Type 0} (xs : List A) (k : ℕ) (x : A) → k < length xs → slice_index_or xs k x ≡ x → slice_get xs k ≡ Some x
get_some [] k x within e = absurd (omega (arith, within))
get_some (y ∷ ys) zero x within e = ap Some e
get_some (y ∷ ys) (suc k) x within e = get_some ys k x (omega (arith, within)) e

found : {A : Type 0} (xs : List A) (x : A) → Contains xs x → (j : ℕ) × (slice_get xs j ≡ Some x)
found xs x (k, within, e) = (k, get_some xs k x within e)

contains : {A : Type 0} (xs : List A) (x : A) → (j : ℕ) × (slice_get xs j ≡ Some x) → Contains xs x
contains xs x (j, e) = (j, slice_get_within xs j x e, get_or_from_slice_get xs j x x e)

-- ---- lifetimes

module _ (f : TempFn) (l m : Lifetimes) (are : AreLifetimes f l) (others : AreLifetimes f m) where
  same_refs : (t : ℕ) → t < f.temps → refs_of l t ≡ refs_of m t
  same_refs t within =
      same_list (λ n. n) (λ n. n) _ _ (are.refs_rise t) (others.refs_rise t) (λ n i. let e : n ≤ n = omega arith in e) (λ n i. let e : n ≤ n = omega arith in e)
      (λ n i. found _ _ ((others.refs t n within).1 ((are.refs t n within).0 (contains _ _ i))))
      (λ n i. found _ _ ((are.refs t n within).1 ((others.refs t n within).0 (contains _ _ i))))

  same_parts : (t : ℕ) → t < f.temps → lifetime_parts l t ≡ lifetime_parts m t
  same_parts t within =
      same_list (λ p. p.first) (λ p. p.last) _ _ (are.parts_rise t) (others.parts_rise t)
      (λ p i. ((are.parts t p.first p.last within).0 (contains _ _ i)).ordered)
      (λ p i. ((others.parts t p.first p.last within).0 (contains _ _ i)).ordered)
      (λ p i. found _ _ ((others.parts t p.first p.last within).1 ((are.parts t p.first p.last within).0 (contains _ _ i))))
      (λ p i. found _ _ ((are.parts t p.first p.last within).1 ((others.parts t p.first p.last within).0 (contains _ _ i))))

  same_lifetimes : (l.parts ≡ m.parts) × (l.refs ≡ m.refs)
  same_lifetimes = (
    ext_get_or [] l.parts m.parts (are.parts_length ∙ sym others.parts_length) (λ t within. same_parts t (omega (arith, within, are.parts_length))),
    ext_get_or [] l.refs m.refs (are.refs_length ∙ sym others.refs_length) (λ t within. same_refs t (omega (arith, within, are.refs_length))),
  )

-- ---- scans

module _ (s t : Scanned) (e : plan_of_scanned s ≡ plan_of_scanned t) (are : AreScanned s) (others : AreScanned t) where
  same_scans : (s.relied ≡ t.relied) × (s.stored ≡ t.stored) × (s.written ≡ t.written)
  same_scans = (
    unique _ _ are.relied (subst (λ a. AreSets a (IsRelied a) t.relied) (sym e) others.relied),
    unique _ _ are.stored (subst (λ a. AreSets a (IsStored a) t.stored) (sym e) others.stored),
    unique _ _ are.written (subst (λ a. AreSets a (IsWritten a) t.written) (sym e) others.written),
  )

pub all_unique : ListsAreUnique
all_unique = record {
  lifetimes = same_lifetimes;
  needs = λ a n m are others. unique _ _ are others;
  scans = same_scans;
}
