-- What a routine answers is an operand of it again: of the routines of 32 bits, a word that is its own sign extension.
use Rattle.std.proofs.Common.{◌≡◌, ℕ, zero, suc, ◌+◌, ◌-◌, ◌*◌, ◌/◌, ◌%◌, ◌^◌, ◌<◌, ◌≤◌, ℤ, pos, negsuc, Bool, true, false, ◌&&◌, cond, eqb, ltb, refl, sym, ap, ◌∙◌, subst, arith}
use Rattle.std.specs.Prelude.{neg_ℤ}
use Rattle.std.specs.Int.{w32, cast_signed}
use Rattle.std.specs.Int.RustNames.{int_div, int_rem, FitsSigned}
use Rattle.std.proofs.lemmas.Bool.{eqb-true, eqb-false, ltb-true, ltb-false, eq-eqb, and_from, cases_lt}
use Rattle.std.proofs.lemmas.Nat.{div_below}
use Rattle.alpha_isa.proofs.Arithmetic.{sign_extended-again, signed-word_from}
use Rattle.alpha_isa.specs.Arithmetic.{word_from, signed_value, sign_extension}
use Rattle.alpha_rt.specs.Routine.{Routine, Answers, Traps, Divq, Remq, Divqu, Remqu, Divl, Reml, Divlu, Remlu, IsRoutineOperand, routine_outcome, is_least_by_minus_one}
use Rattle.alpha_rt.proofs.Signed.{strictly_from}

-- an answer comes only where nothing traps
record AnswersWord (z l : Bool) (made word : ℕ) : Type 0 where
  some : z ≡ false
  other : l ≡ false
  same : made ≡ word

answered : (z l : Bool) (made word : ℕ) → cond z (Traps 1) (cond l (Traps 3) (Answers made)) ≡ Answers word → AnswersWord z l made word
answered true l made word e = let impossible : ⊥ = cc in absurd impossible
answered false true made word e = let impossible : ⊥ = cc in absurd impossible
answered false false made word e = record { some = refl; other = refl; same = cc }

-- ---- unsigned numbers

long_answered : (z : Bool) (n word : ℕ) → cond z (Traps 1) (Answers (sign_extension w32 n)) ≡ Answers word → sign_extension w32 word ≡ word
long_answered true n word e = let impossible : ⊥ = cc in absurd impossible
long_answered false n word e =
    let same : sign_extension w32 n ≡ word = cc in
    subst (λ k. sign_extension w32 k ≡ k) same (sign_extended-again w32 n (omega arith))

-- ---- signed numbers

fits_negated : (n : ℕ) → n ≤ 2 ^ 31 → FitsSigned w32 (neg_ℤ (pos n))
fits_negated zero small = record { sfits = omega arith }
fits_negated (suc n) small = record { sfits = omega arith }

quotient_below : (n d most : ℕ) → n < most → n / d < most
quotient_below n zero most small = omega arith
quotient_below n (suc d) most small = omega arith

remainder_below : (n d most : ℕ) → n < most → n % d < most
remainder_below n zero most small = omega arith
remainder_below n (suc d) most small = omega arith

-- the quotient of two negative numbers, but of the least one by -1
product_fits : (n m : ℕ) → 2 ^ 31 ≤ n → n < 2 ^ 32 → m < 2 ^ 32 → (n ≡ 2 ^ 31 → m ≡ 2 ^ 32 - 1 → ⊥) → (b : Bool) → eqb m (2 ^ 32 - 1) ≡ b → suc (2 ^ 32 - suc n) < 2 ^ 31 * suc (2 ^ 32 - suc m)
product_fits n m large below small other true e =
    let minus : m ≡ 2 ^ 32 - 1 = eqb-true m (2 ^ 32 - 1) e in
    let above : 2 ^ 31 < n = strictly_from (2 ^ 31) n large (λ x. other (sym x) minus) (cases_lt (2 ^ 31) n) in
    omega arith
product_fits n m large below small other false e =
    let lower : m < 2 ^ 32 - 1 = strictly_from m (2 ^ 32 - 1) (omega arith) (eqb-false m (2 ^ 32 - 1) e) (cases_lt m (2 ^ 32 - 1)) in
    omega arith

quotient_fits : (n m : ℕ) (t u : Bool) → ltb n (2 ^ 31) ≡ t → ltb m (2 ^ 31) ≡ u → n < 2 ^ 32 → m < 2 ^ 32 → (n ≡ 2 ^ 31 → m ≡ 2 ^ 32 - 1 → ⊥) →
    FitsSigned w32 (int_div (cond t (pos n) (negsuc (2 ^ 32 - suc n))) (cond u (pos m) (negsuc (2 ^ 32 - suc m))))
quotient_fits n m true true s r below small other = record { sfits = quotient_below n m (2 ^ 31) (ltb-true n (2 ^ 31) s) }
quotient_fits n m true false s r below small other =
    let few : n / suc (2 ^ 32 - suc m) < 2 ^ 31 = quotient_below n (suc (2 ^ 32 - suc m)) (2 ^ 31) (ltb-true n (2 ^ 31) s) in
    fits_negated (n / suc (2 ^ 32 - suc m)) (omega arith)
quotient_fits n m false true s r below small other =
    let large : 2 ^ 31 ≤ n = ltb-false n (2 ^ 31) s in
    let few : suc (2 ^ 32 - suc n) / m < 2 ^ 31 + 1 = quotient_below (suc (2 ^ 32 - suc n)) m (2 ^ 31 + 1) (omega arith) in
    fits_negated (suc (2 ^ 32 - suc n) / m) (omega arith)
quotient_fits n m false false s r below small other = record {
  sfits = div_below (suc (2 ^ 32 - suc n)) (suc (2 ^ 32 - suc m)) (2 ^ 31) (omega arith) (product_fits n m (ltb-false n (2 ^ 31) s) below small other (eqb m (2 ^ 32 - 1)) refl);
}

remainder_fits : (n : ℕ) (d : ℤ) (t : Bool) → ltb n (2 ^ 31) ≡ t → n < 2 ^ 32 → FitsSigned w32 (int_rem (cond t (pos n) (negsuc (2 ^ 32 - suc n))) d)
remainder_fits n (pos m) true s below = record { sfits = remainder_below n m (2 ^ 31) (ltb-true n (2 ^ 31) s) }
remainder_fits n (negsuc m) true s below = record { sfits = remainder_below n (suc m) (2 ^ 31) (ltb-true n (2 ^ 31) s) }
remainder_fits n (pos m) false s below =
    let large : 2 ^ 31 ≤ n = ltb-false n (2 ^ 31) s in
    let few : suc (2 ^ 32 - suc n) % m < 2 ^ 31 + 1 = remainder_below (suc (2 ^ 32 - suc n)) m (2 ^ 31 + 1) (omega arith) in
    fits_negated (suc (2 ^ 32 - suc n) % m) (omega arith)
remainder_fits n (negsuc m) false s below =
    let large : 2 ^ 31 ≤ n = ltb-false n (2 ^ 31) s in
    let few : suc (2 ^ 32 - suc n) % suc m < 2 ^ 31 + 1 = remainder_below (suc (2 ^ 32 - suc n)) (suc m) (2 ^ 31 + 1) (omega arith) in
    fits_negated (suc (2 ^ 32 - suc n) % suc m) (omega arith)

-- a signed number that fits is an operand
extended : (z : ℤ) → FitsSigned w32 z → sign_extension w32 (word_from z) ≡ word_from z
extended z fits = ap word_from (signed-word_from w32 z (omega arith) fits)

not_both : (a b : ℕ) → sign_extension w32 a ≡ a → sign_extension w32 b ≡ b → is_least_by_minus_one w32 a b ≡ false → a % 2 ^ 32 ≡ 2 ^ 31 → b % 2 ^ 32 ≡ 2 ^ 32 - 1 → ⊥
not_both a b x y other n m =
    let least : a ≡ 2 ^ 64 - 2 ^ 31 = sym x ∙ ap (λ k. word_from (cast_signed w32 k)) n in
    let minus : b ≡ 2 ^ 64 - 1 = sym y ∙ ap (λ k. word_from (cast_signed w32 k)) m in
    let both : (eqb a (2 ^ 64 - 2 ^ 31) && eqb b (2 ^ 64 - 1)) ≡ true = and_from (eqb a (2 ^ 64 - 2 ^ 31)) (eqb b (2 ^ 64 - 1)) (eq-eqb a (2 ^ 64 - 2 ^ 31) least) (eq-eqb b (2 ^ 64 - 1) minus) in
    let clash : true ≡ false = sym both ∙ other in
    let impossible : ⊥ = cc in impossible

quotient_extended : (a b word : ℕ) → sign_extension w32 a ≡ a → sign_extension w32 b ≡ b → routine_outcome Divl a b ≡ Answers word → sign_extension w32 word ≡ word
quotient_extended a b word x y e =
    let z : ℤ = int_div (signed_value w32 a) (signed_value w32 b) in
    let found : AnswersWord (eqb b 0) (is_least_by_minus_one w32 a b) (word_from z) word = answered (eqb b 0) (is_least_by_minus_one w32 a b) (word_from z) word e in
    let fits : FitsSigned w32 z = quotient_fits (a % 2 ^ 32) (b % 2 ^ 32) (ltb (a % 2 ^ 32) (2 ^ 31)) (ltb (b % 2 ^ 32) (2 ^ 31)) refl refl (omega arith) (omega arith) (not_both a b x y found.other) in
    subst (λ k. sign_extension w32 k ≡ k) found.same (extended z fits)

remainder_extended : (a b word : ℕ) → routine_outcome Reml a b ≡ Answers word → sign_extension w32 word ≡ word
remainder_extended a b word e =
    let z : ℤ = int_rem (signed_value w32 a) (signed_value w32 b) in
    let found : AnswersWord (eqb b 0) (is_least_by_minus_one w32 a b) (word_from z) word = answered (eqb b 0) (is_least_by_minus_one w32 a b) (word_from z) word e in
    let fits : FitsSigned w32 z = remainder_fits (a % 2 ^ 32) (signed_value w32 b) (ltb (a % 2 ^ 32) (2 ^ 31)) refl (omega arith) in
    subst (λ k. sign_extension w32 k ≡ k) found.same (extended z fits)

pub answers_operand : (r : Routine) (a b word : ℕ) → IsRoutineOperand r a → IsRoutineOperand r b → routine_outcome r a b ≡ Answers word → IsRoutineOperand r word
answers_operand Divq a b word x y e = refl
answers_operand Remq a b word x y e = refl
answers_operand Divqu a b word x y e = refl
answers_operand Remqu a b word x y e = refl
answers_operand Divl a b word x y e = quotient_extended a b word x y e
answers_operand Reml a b word x y e = remainder_extended a b word e
answers_operand Divlu a b word x y e = long_answered (eqb b 0) (a % 2 ^ 32 / (b % 2 ^ 32)) word e
answers_operand Remlu a b word x y e = long_answered (eqb b 0) (a % 2 ^ 32 % (b % 2 ^ 32)) word e
