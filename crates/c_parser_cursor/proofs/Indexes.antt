-- One name more, in a list and in the set beside it.
use Rattle.std.proofs.Common.{◌≡◌, ℕ, Bool, true, false, not, ◌||◌, List, [], ◌∷◌, ◌++◌, refl, sym, ap, ◌∙◌, subst, bytes_eq, reverse}
use Rattle.std.specs.Prelude.{IfOk, is_err}
use Rattle.std.proofs.Common.{Result, Ok, Err}
use Rattle.std.specs.List.{list_any}
use Rattle.std.specs.declared.vec.Vec.{Vec}
use Rattle.std.specs.HashSet.{HashSet, contains_by, PutsKey}
use Rattle.std.proofs.lemmas.List.Folds.{list_any-append}
use Rattle.std.proofs.lemmas.List.Sorted.{list_any-IsPermutation, IsPermutation-reverse}
use Rattle.std.proofs.lemmas.Slice.Eq.{bytes_eq-Decides}
use Rattle.c_parser_cursor.specs.model.Indexes.{IsIndex}

pub any-reverse : {X : Type 0} (p : X → Bool) (xs : List X) → list_any p xs ≡ list_any p (reverse xs)
any-reverse p xs = list_any-IsPermutation p xs (reverse xs) (IsPermutation-reverse xs)

same_truth : (a b : Bool) → (a ≡ true → b ≡ true) → (b ≡ true → a ≡ true) → a ≡ b
same_truth true b f g = sym (f refl)
same_truth false true f g = g refl
same_truth false false f g = refl

pub eq-swapped : (x q : List ℕ) → bytes_eq x q ≡ bytes_eq q x
eq-swapped x q = same_truth (bytes_eq x q) (bytes_eq q x) (λ e. (bytes_eq-Decides q x).1 (sym ((bytes_eq-Decides x q).0 e))) (λ e. (bytes_eq-Decides x q).1 (sym ((bytes_eq-Decides q x).0 e)))

or-false : (a : Bool) → (a || false) ≡ a
or-false true = refl
or-false false = refl

or-swapped : (a b : Bool) → (a || b) ≡ (b || a)
or-swapped true true = refl
or-swapped true false = refl
or-swapped false true = refl
or-swapped false false = refl

-- a name that is there already changes nothing
or-known : (a b : Bool) → (b ≡ true → a ≡ true) → a ≡ (a || b)
or-known true b f = refl
or-known false true f = f refl
or-known false false f = refl

last : (names : List (List ℕ)) (name q : List ℕ) → list_any (λ x. bytes_eq x q) (names ++ name ∷ []) ≡ (list_any (λ x. bytes_eq x q) names || bytes_eq name q)
last names name q = list_any-append (λ x. bytes_eq x q) names (name ∷ []) ∙ ap (λ b. list_any (λ x. bytes_eq x q) names || b) (or-false (bytes_eq name q))

pub index-push : {A S : Type 0} (s n : HashSet (Vec ℕ A) S) (names : List (List ℕ)) (key : Vec ℕ A) (name : List ℕ) (added : Bool) → IsIndex s names → key.items ≡ name
    → added ≡ not (contains_by (λ k. bytes_eq key.items k.items) s) → PutsKey s n key added → IsIndex n (names ++ name ∷ [])
index-push s n names key name true is same was puts = λ q.
    sym (list_any-IsPermutation (λ k. bytes_eq q k.items) (key ∷ s.keys) n.keys puts) ∙ (or-swapped (bytes_eq q key.items) (list_any (λ k. bytes_eq q k.items) s.keys)
    ∙ (ap (λ b. b || bytes_eq q key.items) (is q) ∙ (ap (λ b. list_any (λ x. bytes_eq x q) names || b) (ap (λ k. bytes_eq q k) same ∙ sym (eq-swapped name q)) ∙ sym (last names name q))))
index-push s n names key name false is same was puts = λ q.
    ap (λ ks. list_any (λ k. bytes_eq q k.items) ks) puts ∙ (is q ∙ (or-known (list_any (λ x. bytes_eq x q) names) (bytes_eq name q) (known q) ∙ sym (last names name q)))
  where
    there : (b : Bool) → false ≡ not b → b ≡ true
    there true e = refl
    there false e = absurd (e_false e)
      where
        e_false : false ≡ true → ⊥
        e_false e = cc

    known : (q : List ℕ) → bytes_eq name q ≡ true → list_any (λ x. bytes_eq x q) names ≡ true
    known q e = subst (λ w. list_any (λ x. bytes_eq x w) names ≡ true) ((bytes_eq-Decides name q).0 e) (sym (is name) ∙ (ap (λ w. list_any (λ k. bytes_eq w k.items) s.keys) (sym same) ∙ there (contains_by (λ k. bytes_eq key.items k.items) s) was))

-- the same, where the set says whether it took the name
pub index-told : {A S E : Type 0} (s n : HashSet (Vec ℕ A) S) (names : List (List ℕ)) (key : Vec ℕ A) (name : List ℕ) (all : List (List ℕ)) (r : Result Bool E) → is_err r ≡ false
    → IfOk r (λ added. added ≡ not (contains_by (λ k. bytes_eq key.items k.items) s)) → IfOk r (PutsKey s n key) → IsIndex s names → key.items ≡ name → all ≡ names ++ name ∷ [] → IsIndex n all
index-told s n names key name all (Ok added) fine was puts is same more = subst (IsIndex n) (sym more) (index-push s n names key name added is same was puts)
index-told s n names key name all (Err e) fine was puts is same more = absurd (no fine)
  where
    no : true ≡ false → ⊥
    no e = cc
