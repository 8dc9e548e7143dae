-- What an option was, where what was made of it is there.
use Rattle.std.proofs.Common.{◌≡◌, ℕ, Bool, true, false, ◌==◌, eqb, List, [], ◌∷◌, Option, Some, None, refl, ap, subst, inl, inr, ◌⊎◌}
use Rattle.std.specs.Prelude.{option_map, if◌then◌else◌}
use Rattle.std.specs.List.{find}
use Rattle.std.proofs.lemmas.Bool.{eqb-true}
use Rattle.alpha_lines.specs.model.Readers.{both_of}

chosen : {A : Type 0} (b : Bool) (o : Option A) (x : A) → (if b then o else None) ≡ Some x → (b ≡ true) × (o ≡ Some x)
chosen true o x e = (refl, e)
chosen false o x e = absurd (cc)

pub guarded_some : {A : Type 0} (b : Bool) (o : Option A) (x : A) → (if b then o else None) ≡ Some x → (b ≡ true) × (o ≡ Some x)
guarded_some b o x e = chosen b o x e

pub begun_some : {A : Type 0} (b c : ℕ) (o : Option A) (x : A) → (if b == c then o else None) ≡ Some x → (b ≡ c) × (o ≡ Some x)
begun_some b c o x e = let h = chosen (eqb b c) o x e in (eqb-true b c h.0, h.1)

pub mapped_some : {A B : Type 0} (f : A → B) (o : Option A) (y : B) → option_map f o ≡ Some y → (x : A) × (o ≡ Some x) × (f x ≡ y)
mapped_some f None y e = absurd (cc)
mapped_some f (Some x) y e = (x, refl, cc)

pub zipped_parts : {A B : Type 0} (a : Option A) (b : Option B) (p : A × B) → both_of a b ≡ Some p → (a ≡ Some p.0) × (b ≡ Some p.1)
zipped_parts None b p e = absurd (cc)
zipped_parts (Some x) None p e = absurd (cc)
zipped_parts {A} {B} (Some x) (Some y) p e =
    let same : ◌≡◌ {A = A × B} (x, y) p = cc in
    (ap (λ q. Some q.0) same, ap (λ q. Some q.1) same)

-- which side a choice took
pub split : {A : Type 0} (b : Bool) (x y z : A) → (if b then x else y) ≡ z → ((b ≡ true) × (x ≡ z)) ⊎ ((b ≡ false) × (y ≡ z))
split true x y z e = inl (refl, e)
split false x y z e = inr (refl, e)

pub found_passes : {A : Type 0} (p : A → Bool) (xs : List A) (x : A) → find p xs ≡ Some x → p x ≡ true
found_passes p [] x e = absurd (cc)
found_passes p (y ∷ ys) x e =
    elim (split (p y) (Some y) (find p ys) (Some x) e) [ inl h ↦ (let same : y ≡ x = cc in subst (λ v. p v ≡ true) same h.0) | inr h ↦ found_passes p ys x h.1 ]
