-- The value of digits grows with each digit.
use Rattle.std.proofs.Common.{◌≡◌, ℕ, suc, ◌<◌, ◌≤◌, List, [], ◌∷◌, length, get_or, drop, Some, None, refl, arith, drop-cons}
use Rattle.std.specs.Prelude.{fold}
use Rattle.std.proofs.lemmas.Bool.Decides.{nat_tests}
use native.Mathlib.Nat.{le-mul_of_pos_right}
use Rattle.c_lexer.specs.Literals.{digit_step, value_in, byte}

pub fold_more : (f : ℕ → ℕ → ℕ) (v i : ℕ) (xs : List ℕ) → i < length xs → fold f v (drop i xs) ≡ fold f (f v (get_or xs i 0)) (drop (suc i) xs)
fold_more f v i xs h = rw (drop-cons xs i 0 h) refl

pub value_starts : (base : ℕ) (xs : List ℕ) → value_in base xs ≡ fold (digit_step base) 0 xs
unfolding value_in
value_starts base xs = refl

pub grows : (base v : ℕ) (xs : List ℕ) → 0 < base → v ≤ fold (digit_step base) v xs
grows base v [] h = omega arith
grows base v (b ∷ xs) h = omega (arith, le-mul_of_pos_right v h, grows base (digit_step base v b) xs h)

pub too_large : (v : ℕ) → 255 < v → byte v ≡ None
unfolding byte
too_large v h = grind (arith, nat_tests)

pub small : (v : ℕ) → v ≤ 255 → byte v ≡ Some v
unfolding byte
small v h = grind (arith, nat_tests)
