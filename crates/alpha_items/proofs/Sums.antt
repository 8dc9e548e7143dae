-- Sums of the fronts of lists of numbers.
use Rattle.std.proofs.Common.{◌≡◌, ℕ, zero, suc, ◌+◌, ◌≤◌, List, [], ◌∷◌, take, get_or, refl, arith}
use native.Mathlib.Numerals.{unary_clauses}
use Rattle.std.specs.List.{sum}
use Rattle.std.proofs.lemmas.List.Sums.{sum_by-cons}

-- the sum of a list is its first number and the sum of the rest
pub sum-cons : (x : ℕ) (xs : List ℕ) → sum (x ∷ xs) ≡ x + sum xs
sum-cons x xs = sum_by-cons (λ (n : ℕ). n) x xs

-- one number more in front
pub sum-more : (xs : List ℕ) (k : ℕ) → sum (take (suc k) xs) ≡ sum (take k xs) + get_or xs k 0
sum-more [] zero = refl
sum-more [] (suc k) = refl
sum-more (x ∷ xs) zero = refl
sum-more (x ∷ xs) (suc k) =
    let whole = sum-cons x (take (suc k) xs) in
    let front = sum-cons x (take k xs) in
    let rest = sum-more xs k in
    omega (arith, whole, front, rest)

-- where each number of a list is at most that of another, so is the sum of each part
pub part_grows : (xs ys : List ℕ) → ((k : ℕ) → get_or xs k 0 ≤ get_or ys k 0) → (i n : ℕ) →
    sum (take (i + n) xs) + sum (take i ys) ≤ sum (take (i + n) ys) + sum (take i xs)
part_grows xs ys le i zero = simp unary_clauses (omega arith)
part_grows xs ys le i (suc n) =
    let before = part_grows xs ys le i n in
    let left = sum-more xs (i + n) in
    let right = sum-more ys (i + n) in
    let here = le (i + n) in
    simp unary_clauses (omega (arith, before, left, right, here))
