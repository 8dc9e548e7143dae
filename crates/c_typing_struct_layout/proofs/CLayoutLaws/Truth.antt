-- Facts on truth values.
use Rattle.std.proofs.Common.{◌≡◌, Bool, true, false, ◌&&◌, ◌||◌, IsTrue, List, ◌∷◌, Some, None, refl, subst}
use Rattle.std.specs.Prelude.{All, slice_get, ℕ, zero, suc, []}
use Rattle.std.proofs.lemmas.List.Elements.{All-head, All-tail}

pub no_true : {X : Type 0} → false ≡ true → X
no_true h = let clash : ⊥ = cc in absurd clash

pub front : (a b : Bool) → IsTrue (a && b) → IsTrue a
front true b h = refl
front false b h = no_true h

pub back : (a b : Bool) → IsTrue (a && b) → IsTrue b
back true b h = h
back false b h = no_true h

-- what follows from each of two
pub either : (a b : Bool) {X : Type 0} → (IsTrue a → X) → (IsTrue b → X) → IsTrue (a || b) → X
either true b f g h = f refl
either false b f g h = g h

pub none_some : {A X : Type 0} (x : A) → None ≡ Some x → X
none_some x h = let clash : ⊥ = cc in absurd clash

-- what holds of all holds of the one with a number
pub all_at : {A : Type 0} (P : A → Type 0) (xs : List A) (k : ℕ) (x : A) → All P xs → slice_get xs k ≡ Some x → P x
all_at P [] k x all e = none_some x e
all_at P (y ∷ xs) zero x all e = let same : y ≡ x = cc in subst P same (All-head P y xs all)
all_at P (y ∷ xs) (suc k) x all e = all_at P xs k x (All-tail P y xs all) e
