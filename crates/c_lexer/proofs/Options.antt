-- Options and choices.
use Rattle.std.proofs.Common.{◌≡◌, ℕ, suc, ◌+◌, Bool, true, false, cond, Option, Some, None, refl, ap, arith}
use Rattle.std.specs.Prelude.{option_map}

pub pick : {A : Type 0} {C : Type 0} (b : Bool) (x y z : A) → cond b x y ≡ z → (b ≡ true → x ≡ z → C) → (b ≡ false → y ≡ z → C) → C
pick true x y z e f g = f refl e
pick false x y z e f g = g refl e

-- what holds of both sides of a choice
pub by_test : {A : Type 0} (P : A → Type 0) (b : Bool) (x y : A) → (b ≡ true → P x) → (b ≡ false → P y) → P (cond b x y)
by_test P true x y f g = f refl
by_test P false x y f g = g refl

pub option_map-suc : (j : ℕ) (o : Option ℕ) → option_map (λ n. n + j) (option_map suc o) ≡ option_map (λ n. n + suc j) o
option_map-suc j None = refl
option_map-suc j (Some n) = let e : suc n + j ≡ n + suc j = omega arith in ap Some e

pub shifts : (o : Option ℕ) (a k b : ℕ) → suc k + a ≡ b → option_map (λ n. n + a) (option_map suc (option_map (λ n. n + k) o)) ≡ option_map (λ n. n + b) o
shifts None a k b e = refl
shifts (Some n) a k b e = let e : suc (n + k) + a ≡ n + b = omega arith in ap Some e

-- one more than what is there
pub un_suc : (o : Option ℕ) (m : ℕ) → option_map suc o ≡ Some m → (n : ℕ) × (o ≡ Some n) × (suc n ≡ m)
un_suc None m e = cc
un_suc (Some n) m e = let q : suc n ≡ m = cc in (n, refl, q)

pub not_both : {A : Type 0} (o : Option A) (x : A) → o ≡ Some x → o ≡ None → ⊥
not_both None x e f = cc
not_both (Some y) x e f = cc
