-- The ids of the parts of a list stand apart.
use Rattle.std.proofs.Common.{◌≡◌, ℕ, false, List, [], ◌∷◌, ◌++◌, Option, Some, None, refl, ap, arith}
use Rattle.std.proofs.lemmas.Bool.Decides.{nat_tests}
use Rattle.std.specs.Prelude.{nat_eq}
use Rattle.std.specs.List.{IsDistinct, AllByRecursion}
use Rattle.bk_ilist.specs.Listing.{ids, first_or, last_or}
use Rattle.bk_ilist.specs.model.Chain.{points}

pub nat_eq-flip : (a b : ℕ) → nat_eq a b ≡ false → nat_eq b a ≡ false
nat_eq-flip a b h = grind (arith, nat_tests)

module _ {T : Type 0} where
  -- a link names none of these pairs
  abbrev pub Away : Option ℕ → List (ℕ × T) → Type 0
  Away at pairs = AllByRecursion (λ id. points at id ≡ false) (ids pairs)

  pub away_none : (pairs : List (ℕ × T)) → Away None pairs
  away_none [] = tt
  away_none (p ∷ pairs) = (refl, away_none pairs)

  pub each_append : (P : ℕ → Type 0) (xs ys : List (ℕ × T)) → AllByRecursion P (ids xs) → AllByRecursion P (ids ys) → AllByRecursion P (ids (xs ++ ys))
  each_append P [] ys a b = b
  each_append P (x ∷ xs) ys a b = (a.0, each_append P xs ys a.1 b)

  pub each_left : (P : ℕ → Type 0) (xs ys : List (ℕ × T)) → AllByRecursion P (ids (xs ++ ys)) → AllByRecursion P (ids xs)
  each_left P [] ys a = tt
  each_left P (x ∷ xs) ys a = (a.0, each_left P xs ys a.1)

  pub each_right : (P : ℕ → Type 0) (xs ys : List (ℕ × T)) → AllByRecursion P (ids (xs ++ ys)) → AllByRecursion P (ids ys)
  each_right P [] ys a = a
  each_right P (x ∷ xs) ys a = each_right P xs ys a.1

  pub distinct_left : (xs ys : List (ℕ × T)) → IsDistinct nat_eq (ids (xs ++ ys)) → IsDistinct nat_eq (ids xs)
  unfolding IsDistinct
  distinct_left [] ys d = tt
  distinct_left (x ∷ xs) ys d = (each_left (λ id. nat_eq x.0 id ≡ false) xs ys d.0, distinct_left xs ys d.1)

  pub distinct_right : (xs ys : List (ℕ × T)) → IsDistinct nat_eq (ids (xs ++ ys)) → IsDistinct nat_eq (ids ys)
  unfolding IsDistinct
  distinct_right [] ys d = d
  distinct_right (x ∷ xs) ys d = distinct_right xs ys d.1

  -- the last of a part is none of what follows
  pub last_away : (at : Option ℕ) (xs ys : List (ℕ × T)) → Away at ys → IsDistinct nat_eq (ids (xs ++ ys)) → Away (last_or xs at) ys
  unfolding IsDistinct
  last_away at [] ys a d = a
  last_away at (x ∷ xs) ys a d = last_away (Some x.0) xs ys (each_right (λ id. nat_eq x.0 id ≡ false) xs ys d.0) d.1

  -- the last of a part is not what stands before that part
  pub last_not : (id : ℕ) (at : Option ℕ) (xs : List (ℕ × T)) → points at id ≡ false → Away (Some id) xs → points (last_or xs at) id ≡ false
  last_not id at [] h a = h
  last_not id at (x ∷ xs) h a = last_not id (Some x.0) xs (nat_eq-flip id x.0 a.0) a.1

  -- the first of a part is not what stands before that part
  pub first_not : (id : ℕ) (ys : List (ℕ × T)) → Away (Some id) ys → points (first_or ys None) id ≡ false
  first_not id [] a = refl
  first_not id (y ∷ ys) a = nat_eq-flip id y.0 a.0

  -- the first of a part is none of what stands before it
  pub first_away : (xs ys : List (ℕ × T)) → IsDistinct nat_eq (ids (xs ++ ys)) → Away (first_or ys None) xs
  unfolding IsDistinct
  first_away [] ys d = tt
  first_away (x ∷ xs) ys d = (first_not x.0 ys (each_right (λ id. nat_eq x.0 id ≡ false) xs ys d.0), first_away xs ys d.1)

  flip_each : (id : ℕ) (xs : List (ℕ × T)) → Away (Some id) xs → AllByRecursion (λ other. nat_eq other id ≡ false) (ids xs)
  flip_each id [] a = tt
  flip_each id (x ∷ xs) a = (nat_eq-flip id x.0 a.0, flip_each id xs a.1)

  -- an id that is none of those of a list
  pub distinct_with : (xs ys : List (ℕ × T)) (p : ℕ × T) → Away (Some p.0) xs → Away (Some p.0) ys → IsDistinct nat_eq (ids (xs ++ ys)) → IsDistinct nat_eq (ids (xs ++ p ∷ ys))
  unfolding IsDistinct
  distinct_with [] ys p a b d = (b, d)
  distinct_with (x ∷ xs) ys p a b d =
      let here = λ (id : ℕ). nat_eq x.0 id ≡ false in
      (each_append here xs (p ∷ ys) (each_left here xs ys d.0) (nat_eq-flip p.0 x.0 a.0, each_right here xs ys d.0), distinct_with xs ys p a.1 b d.1)

  pub distinct_without : (xs ys : List (ℕ × T)) (p : ℕ × T) → IsDistinct nat_eq (ids (xs ++ p ∷ ys)) → IsDistinct nat_eq (ids (xs ++ ys))
  unfolding IsDistinct
  distinct_without [] ys p d = d.1
  distinct_without (x ∷ xs) ys p d =
      let here = λ (id : ℕ). nat_eq x.0 id ≡ false in
      (each_append here xs ys (each_left here xs (p ∷ ys) d.0) (each_right here xs (p ∷ ys) d.0).1, distinct_without xs ys p d.1)

  -- the ids of a list with another item in one place are those of before
  pub ids_same : (xs ys : List (ℕ × T)) (p q : ℕ × T) → p.0 ≡ q.0 → ids (xs ++ p ∷ ys) ≡ ids (xs ++ q ∷ ys)
  ids_same [] ys p q e = ap (λ id. id ∷ ids ys) e
  ids_same (x ∷ xs) ys p q e = ap (λ rest. x.0 ∷ rest) (ids_same xs ys p q e)
