-- Quotients and remainders: what a division routine answers is what the operator of C answers, and the code that calls it
-- comes to that.
use Rattle.std.proofs.Common.{◌≡◌, ℕ, zero, suc, ◌+◌, ◌-◌, ◌*◌, ◌/◌, ◌%◌, ◌^◌, ◌<◌, ◌≤◌, [], ◌∷◌, Bool, true, false, ltb, ℤ, pos, negsuc, neg_ℤ, refl, sym, ap, ◌∙◌, subst, arith, eq-eqb}
use Rattle.std.specs.Prelude.{◌==◌, ◌&&◌, nat_lt, not, int_div, int_rem, if◌then◌else◌}
use Rattle.std.specs.Int.{Width, w32, w64, cast_signed}
use Rattle.std.specs.Int.RustNames.{FitsSigned}
use Rattle.std.proofs.lemmas.Bool.{eqb-true, ne_eqb, lt-ltb, ltb-true, ltb-false}
use Rattle.std.proofs.lemmas.Bool.Decides.{nat_tests}
use Rattle.std.proofs.lemmas.Nat.{div_below}
use Rattle.std.proofs.lemmas.Int.{of_z-to_z}
use lib.Signed.{mag_rem}
use mir.Val.{hbits}
use Rattle.mem_model.specs.declared.value.Value.{Value}
use Rattle.mem_model.specs.Memory.{Memory}
use Rattle.mem_model.specs.World.{Outer}
use Rattle.alpha_isa.specs.Arithmetic as isa
use Rattle.alpha_isa.specs.Arithmetic.{word_from, signed_value, sign_extension}
use Rattle.alpha_rt.specs.Routine as rt
use Rattle.alpha_rt.specs.Routine.{is_least_by_minus_one}
use Rattle.bk_arithmetic.specs.declared.integer_type.IntegerType.{IntegerType}
use Rattle.bk_arithmetic.specs.declared.integer_type.IntegerType.TheVariants.{Int, UnsignedInt, Long, UnsignedLong}
use Rattle.bk_arithmetic.specs.declared.outcome.ArithmeticOutcome.{ArithmeticOutcome}
use Rattle.bk_arithmetic.specs.declared.outcome.ArithmeticOutcome.TheVariants as outcome
use Rattle.bk_arithmetic.specs.IntegerTypes as types
use Rattle.bk_arithmetic.specs.Words.{low_bits, value, extension}
use Rattle.bk_arithmetic.specs.Words as words
use Rattle.bk_arithmetic.specs.Operations as c
use Rattle.bk_arithmetic.proofs.LowBits.{extension-same}
use Rattle.bk_arithmetic.proofs.Values.{signed_fits}
use Rattle.suifvm_ir.specs.declared.types.VmType.{VmType}
use Rattle.suifvm_ir.specs.declared.types.VmType.TheVariants.{S32, U32, S64, U64, P64}
use Rattle.suifvm_ir.specs.declared.insn.VmBinaryOp.TheVariants.{Divide, Remainder}
use Rattle.suifvm_meaning.specs.declared.answer.Answer as vm
use Rattle.suifvm_meaning.specs.declared.answer.Answer.TheVariants as v
use Rattle.suifvm_meaning.specs.Operations.{outcome_answer, binary_answer}
use Rattle.temp_ir.specs.declared.operation.DivisionRoutine.{DivisionRoutine}
use Rattle.temp_ir.specs.declared.operation.DivisionRoutine.TheVariants.{Divq, Remq, Divqu, Remqu, Divl, Reml, Divlu, Remlu}
use Rattle.temp_ir.specs.declared.insn.FixedRegister.TheVariants.{Dividend, Divisor, Answer}
use Rattle.temp_ir.specs.declared.insn.TempInsn.TheVariants as i
use Rattle.alloc_model.specs.Contents as contents
use Rattle.alloc_model.specs.Contents.{Content, Plain, Gives, TrapsWith, Fails, effect_answer}
use Rattle.alloc_model.specs.Stores.{put, without}
use Rattle.alloc_model.specs.Effect as effect
use Rattle.alloc_model.specs.Effect.{Temp, Fixed, holder_eq, is_emptied, takes_word, division_answer, words_division, writes}
use Rattle.alloc_model.specs.Temporaries.{Temps}
use Rattle.selection_forms.specs.alpha_forms.Straight.{Ran, goes_with, runs}
use Rattle.selection_forms.specs.alpha_forms.Registers.{CodeAnswers}
use Rattle.selection_forms.specs.alpha_forms.Operations.{quotient_routine, remainder_routine, division_items}
use Rattle.selection_forms.specs.alpha_forms.Laws.{BinaryIsDone}
use Rattle.selection_forms.proofs.AlphaForms.Runs.{put_here, put_beside}
use Rattle.selection_forms.proofs.AlphaForms.Prepares.{Matches}
use Rattle.selection_forms.proofs.AlphaForms.Numbers.{two_numbers, fits_int, fits_long, int_word, long_word, checked_int, checked_long}

-- ---- truth values

and_false : (b : Bool) → (b && false) ≡ false
and_false true = refl
and_false false = refl

-- both trap where the divisor is zero, and answer the same where it is not
by_zero : (p q : Bool) (a : ArithmeticOutcome) (e : rt.RoutineEnding) → p ≡ q → Matches (outcome_answer a) (effect.outcome_answer e) →
    Matches (outcome_answer (if p then c.division_by_zero else a)) (effect.outcome_answer (if q then rt.Traps 1 else e))
by_zero true true a e same h = refl
by_zero false false a e same h = h
by_zero true false a e same h = let clash : ⊥ = cc in absurd clash
by_zero false true a e same h = let clash : ⊥ = cc in absurd clash

-- a word of a type is zero where its low bits are
zero_test : (t : IntegerType) (n : ℕ) → extension t n ≡ n → low_bits t 0 ≡ 0 → extension t 0 ≡ 0 → (low_bits t n == 0) ≡ (n == 0)
zero_test t n is low none = by_test (n == 0) refl
  where
    by_low : (b : Bool) → (low_bits t n == 0) ≡ b → (n == 0) ≡ false → b ≡ false
    by_low false e f = refl
    by_low true e f =
        let same : n ≡ 0 = sym is ∙ extension-same t n 0 (eqb-true (low_bits t n) 0 e ∙ sym low) ∙ none in
        let clash : true ≡ false = sym (eq-eqb n 0 same) ∙ f in
        let never : ⊥ = cc in absurd never

    by_test : (b : Bool) → (n == 0) ≡ b → (low_bits t n == 0) ≡ (n == 0)
    by_test true e = let zero_is : n ≡ 0 = eqb-true n 0 e in eq-eqb (low_bits t n) 0 (ap (low_bits t) zero_is ∙ low) ∙ sym e
    by_test false e = by_low (low_bits t n == 0) refl e ∙ sym e

-- ---- signed numbers: the quotient fits but for that of the least number by -1

below : (h : ℕ) → ℤ → Bool
below h (pos n) = nat_lt n h
below h (negsuc n) = nat_lt n h

fits_below : (w : Width) (z : ℤ) → isa.fits_signed w z ≡ below (2 ^ hbits w) z
unfolding below
fits_below w (pos n) = refl
fits_below w (negsuc n) = refl

size : ℤ → ℕ
size (pos n) = n
size (negsuc n) = n

quotient_most : (n d : ℕ) → n / d ≤ n
quotient_most n zero = omega arith
quotient_most n (suc d) = omega arith

negated_below : (h k : ℕ) → k ≤ h → 1 ≤ h → below h (neg_ℤ (pos k)) ≡ true
unfolding below
negated_below h zero most some = lt-ltb 0 h (omega arith)
negated_below h (suc k) most some = lt-ltb k h (omega arith)

module _ (h : ℕ) (some : 1 ≤ h) (most : h ≤ 2 ^ 63) where
  is_least : (x y : ℕ) → Bool
  is_least x y = (x == 2 ^ 64 - h) && (y == 2 ^ 64 - 1)

  not_least : (x y : ℕ) → (x ≡ 2 ^ 64 - h → ⊥) → is_least x y ≡ false
  unfolding is_least
  not_least x y other = ap (λ b. b && (y == 2 ^ 64 - 1)) (ne_eqb x (2 ^ 64 - h) other)

  not_minus_one : (x y : ℕ) → (y ≡ 2 ^ 64 - 1 → ⊥) → is_least x y ≡ false
  unfolding is_least
  not_minus_one x y other = ap (λ b. (x == 2 ^ 64 - h) && b) (ne_eqb y (2 ^ 64 - 1) other) ∙ and_false (x == 2 ^ 64 - h)

  -- the quotient by -1, and by a number below
  by_minus_one : (a x y : ℕ) → a < h → 2 ^ 64 - suc a ≡ x → 2 ^ 64 - 1 ≡ y → below h (pos (suc a / 1)) ≡ not (is_least x y)
  unfolding below is_least
  by_minus_one a x y f e k = by_test (ltb (suc a) h) refl
    where
      whole : suc a / 1 ≡ suc a
      whole = omega arith

      by_test : (b : Bool) → ltb (suc a) h ≡ b → nat_lt (suc a / 1) h ≡ not ((x == 2 ^ 64 - h) && (y == 2 ^ 64 - 1))
      by_test true lt =
          let small : suc a < h = ltb-true (suc a) h lt in
          ap (λ n. nat_lt n h) whole ∙ lt ∙ ap (λ b. not (b && (y == 2 ^ 64 - 1))) (sym (ne_eqb x (2 ^ 64 - h) (λ z. omega (arith, small, z, e, most, some))))
      by_test false ge =
          let large : h ≤ suc a = ltb-false (suc a) h ge in
          let same : x ≡ 2 ^ 64 - h = omega (arith, large, f, e) in
          ap (λ n. nat_lt n h) whole ∙ ge ∙ ap not (sym (eq-eqb y (2 ^ 64 - 1) (sym k))) ∙ ap (λ b. not (b && (y == 2 ^ 64 - 1))) (sym (eq-eqb x (2 ^ 64 - h) same))

  by_below : (a b : ℕ) → a < h → suc a / suc (suc b) < h
  by_below a b f = div_below (suc a) (suc (suc b)) h (omega arith) (let twice : h + h ≤ h * suc (suc b) = doubled in omega (arith, f, some, twice))
    where
      doubled : h + h ≤ h * suc (suc b)
      doubled = omega arith

  quotient_test : (a b : ℤ) (x y : ℕ) → size a < h → size b < h → word_from a ≡ x → word_from b ≡ y → below h (int_div a b) ≡ not (is_least x y)
  unfolding below size
  quotient_test (pos a) (pos b) x y f g e k =
      lt-ltb (a / b) h (omega (arith, quotient_most a b, f)) ∙ ap not (sym (not_least x y (λ z. omega (arith, z, e, f, most))))
  quotient_test (pos a) (negsuc b) x y f g e k =
      negated_below h (a / suc b) (omega (arith, quotient_most a (suc b), f)) some ∙ ap not (sym (not_least x y (λ z. omega (arith, z, e, f, most))))
  quotient_test (negsuc a) (pos b) x y f g e k =
      negated_below h (suc a / b) (omega (arith, quotient_most (suc a) b, f)) some ∙ ap not (sym (not_minus_one x y (λ z. omega (arith, z, k, g, most))))
  quotient_test (negsuc a) (negsuc zero) x y f g e k = by_minus_one a x y f e k
  quotient_test (negsuc a) (negsuc (suc b)) x y f g e k =
      lt-ltb (suc a / suc (suc b)) h (by_below a b f) ∙ ap not (sym (not_minus_one x y (λ z. omega (arith, z, k, g, most))))

size_fits : (w : Width) (z : ℤ) → FitsSigned w z → size z < 2 ^ hbits w
unfolding size
size_fits w (pos n) f = f.sfits
size_fits w (negsuc n) f = f.sfits

fits_as : (w : Width) (z : ℤ) → FitsSigned w z → isa.fits_signed w z ≡ true
fits_as w (pos n) f = lt-ltb n (2 ^ hbits w) f.sfits
fits_as w (negsuc n) f = lt-ltb n (2 ^ hbits w) f.sfits

quotient_int : (a b : ℤ) (x y : ℕ) → FitsSigned w32 a → FitsSigned w32 b → word_from a ≡ x → word_from b ≡ y →
    isa.fits_signed w32 (int_div a b) ≡ not (is_least_by_minus_one w32 x y)
unfolding is_least
quotient_int a b x y f g e k =
    fits_below w32 (int_div a b) ∙ quotient_test (2 ^ 31) (omega arith) (omega arith) a b x y (size_fits w32 a f) (size_fits w32 b g) e k

quotient_long : (a b : ℤ) (x y : ℕ) → FitsSigned w64 a → FitsSigned w64 b → word_from a ≡ x → word_from b ≡ y →
    isa.fits_signed w64 (int_div a b) ≡ not (is_least_by_minus_one w64 x y)
unfolding is_least
quotient_long a b x y f g e k =
    fits_below w64 (int_div a b) ∙ quotient_test (2 ^ 63) (omega arith) (omega arith) a b x y (size_fits w64 a f) (size_fits w64 b g) e k

-- a result that has to fit, where the test is whether it is not that of the least number by -1
as_checked : (z : ℤ) (f l : Bool) → f ≡ not l →
    effect_answer (if f then isa.Gives (word_from z) else isa.Overflows) ≡ effect.outcome_answer (if l then rt.Traps 3 else rt.Answers (word_from z))
as_checked z f true e = ap (λ b. effect_answer (if b then isa.Gives (word_from z) else isa.Overflows)) e
as_checked z f false e = ap (λ b. effect_answer (if b then isa.Gives (word_from z) else isa.Overflows)) e

-- a remainder fits as its dividend does
remainder_fits : (w : Width) (a b : ℤ) → FitsSigned w a → FitsSigned w (int_rem a b)
remainder_fits w a b f = record { sfits = omega (arith, mag_rem a b, f.sfits) }

checked_rest : (t : IntegerType) (z r : ℤ) (f l : Bool) → types.fits t z ≡ f → f ≡ not l → words.word t r ≡ word_from r →
    Matches (outcome_answer (if f then outcome.Word (words.word t r) else c.overflow)) (effect.outcome_answer (if l then rt.Traps 3 else rt.Answers (word_from r)))
checked_rest t z r true true is e same = let clash : ⊥ = cc in absurd clash
checked_rest t z r true false is e same = ap contents.word_answer (sym same)
checked_rest t z r false true is e same = refl
checked_rest t z r false false is e same = let clash : ⊥ = cc in absurd clash

-- ---- what the routines answer

taken : (r : DivisionRoutine) (a b : ℕ) → takes_word r a ≡ true → takes_word r b ≡ true → words_division r a b ≡ effect.outcome_answer (rt.routine_outcome (effect.routine_of r) a b)
taken r a b f g =
    ap (λ p. if p && takes_word r b then effect.outcome_answer (rt.routine_outcome (effect.routine_of r) a b) else Fails) f
    ∙ ap (λ p. if p then effect.outcome_answer (rt.routine_outcome (effect.routine_of r) a b) else Fails) g

extended : (n : ℕ) → sign_extension w32 n ≡ n → (sign_extension w32 n == n) ≡ true
extended n e = eq-eqb (sign_extension w32 n) n e

-- a signed word is the word of its value
int_value : (n : ℕ) → extension Int n ≡ n → word_from (value Int n) ≡ n
int_value n e = e

long_value : (n : ℕ) → extension Long n ≡ n → word_from (value Long n) ≡ n
long_value n e = of_z-to_z w64 (n % 2 ^ 64) (omega arith) ∙ e

int_fits : (n : ℕ) → FitsSigned w32 (value Int n)
int_fits n = signed_fits Int n

long_fits : (n : ℕ) → FitsSigned w64 (value Long n)
long_fits n = signed_fits Long n

quotient_signed_int : (x y : ℕ) → extension Int x ≡ x → extension Int y ≡ y → Matches (outcome_answer (c.quotient Int x y)) (words_division Divl x y)
quotient_signed_int x y e k =
    let z : ℤ = int_div (value Int x) (value Int y) in
    let same = as_checked z (isa.fits_signed w32 z) (is_least_by_minus_one w32 x y) (quotient_int (value Int x) (value Int y) x y (int_fits x) (int_fits y) (int_value x e) (int_value y k)) in
    subst (Matches (outcome_answer (c.quotient Int x y))) (sym (taken Divl x y (extended x e) (extended y k)))
    (by_zero (low_bits Int y == 0) (y == 0) (c.word_or_overflow Int z) (if is_least_by_minus_one w32 x y then rt.Traps 3 else rt.Answers (word_from z))
    (zero_test Int y k refl refl) (subst (Matches (outcome_answer (c.word_or_overflow Int z))) same (checked_int z)))

quotient_signed_long : (x y : ℕ) → extension Long x ≡ x → extension Long y ≡ y → Matches (outcome_answer (c.quotient Long x y)) (words_division Divq x y)
quotient_signed_long x y e k =
    let z : ℤ = int_div (value Long x) (value Long y) in
    let same = as_checked z (isa.fits_signed w64 z) (is_least_by_minus_one w64 x y) (quotient_long (value Long x) (value Long y) x y (long_fits x) (long_fits y) (long_value x e) (long_value y k)) in
    subst (Matches (outcome_answer (c.quotient Long x y))) (sym (taken Divq x y refl refl))
    (by_zero (low_bits Long y == 0) (y == 0) (c.word_or_overflow Long z) (if is_least_by_minus_one w64 x y then rt.Traps 3 else rt.Answers (word_from z))
    (zero_test Long y k refl refl) (subst (Matches (outcome_answer (c.word_or_overflow Long z))) same (checked_long z)))

remainder_signed_int : (x y : ℕ) → extension Int x ≡ x → extension Int y ≡ y → Matches (outcome_answer (c.remainder Int x y)) (words_division Reml x y)
remainder_signed_int x y e k =
    let z : ℤ = int_div (value Int x) (value Int y) in
    let r : ℤ = int_rem (value Int x) (value Int y) in
    let test = fits_int z ∙ quotient_int (value Int x) (value Int y) x y (int_fits x) (int_fits y) (int_value x e) (int_value y k) in
    let fit : types.fits Int r ≡ true = fits_int r ∙ fits_as w32 r (remainder_fits w32 (value Int x) (value Int y) (int_fits x)) in
    subst (Matches (outcome_answer (c.remainder Int x y))) (sym (taken Reml x y (extended x e) (extended y k)))
    (by_zero (low_bits Int y == 0) (y == 0) (c.checked_remainder Int (value Int x) (value Int y)) (if is_least_by_minus_one w32 x y then rt.Traps 3 else rt.Answers (word_from r))
    (zero_test Int y k refl refl) (checked_rest Int z r (types.fits Int z) (is_least_by_minus_one w32 x y) refl test (int_word r fit)))

remainder_signed_long : (x y : ℕ) → extension Long x ≡ x → extension Long y ≡ y → Matches (outcome_answer (c.remainder Long x y)) (words_division Remq x y)
remainder_signed_long x y e k =
    let z : ℤ = int_div (value Long x) (value Long y) in
    let r : ℤ = int_rem (value Long x) (value Long y) in
    let test = fits_long z ∙ quotient_long (value Long x) (value Long y) x y (long_fits x) (long_fits y) (long_value x e) (long_value y k) in
    let fit : types.fits Long r ≡ true = fits_long r ∙ fits_as w64 r (remainder_fits w64 (value Long x) (value Long y) (long_fits x)) in
    subst (Matches (outcome_answer (c.remainder Long x y))) (sym (taken Remq x y refl refl))
    (by_zero (low_bits Long y == 0) (y == 0) (c.checked_remainder Long (value Long x) (value Long y)) (if is_least_by_minus_one w64 x y then rt.Traps 3 else rt.Answers (word_from r))
    (zero_test Long y k refl refl) (checked_rest Long z r (types.fits Long z) (is_least_by_minus_one w64 x y) refl test (long_word r fit)))

-- ---- unsigned numbers: the quotient always fits

remainder_most : (n d : ℕ) → n % d ≤ n
remainder_most n zero = omega arith
remainder_most n (suc d) = omega arith

fits_unsigned_int : (n : ℕ) → n < 2 ^ 32 → types.fits UnsignedInt (pos n) ≡ true
fits_unsigned_int n f = grind (arith, nat_tests)

fits_unsigned_long : (n : ℕ) → n < 2 ^ 64 → types.fits UnsignedLong (pos n) ≡ true
fits_unsigned_long n f = grind (arith, nat_tests)

-- an outcome that fits is the word
word_that_fits : (t : IntegerType) (z r : ℤ) (n : ℕ) → types.fits t z ≡ true → words.word t r ≡ n →
    Matches (outcome_answer (if types.fits t z then outcome.Word (words.word t r) else c.overflow)) (effect.outcome_answer (rt.Answers n))
word_that_fits t z r n fit is =
    subst (λ b. Matches (outcome_answer (if b then outcome.Word (words.word t r) else c.overflow)) (effect.outcome_answer (rt.Answers n))) (sym fit) (ap contents.word_answer (sym is))

long_of : (n m : ℕ) → n ≡ m → n < 2 ^ 64 → words.word UnsignedLong (pos n) ≡ m
long_of n m e f = omega (arith, e, f)

int_of : (n : ℕ) → words.word UnsignedInt (pos n) ≡ sign_extension w32 n
int_of n = let low : n % 2 ^ 64 % 2 ^ 32 ≡ n % 2 ^ 32 = omega arith in ap (λ k. word_from (cast_signed w32 k)) low

quotient_unsigned_long : (x y : ℕ) → extension UnsignedLong x ≡ x → extension UnsignedLong y ≡ y → Matches (outcome_answer (c.quotient UnsignedLong x y)) (words_division Divqu x y)
quotient_unsigned_long x y e k =
    let q : ℕ = x % 2 ^ 64 / (y % 2 ^ 64) in
    let small : q < 2 ^ 64 = omega (arith, quotient_most (x % 2 ^ 64) (y % 2 ^ 64)) in
    let same : q ≡ x / y = ap (λ n. n / (y % 2 ^ 64)) e ∙ ap (λ n. x / n) k in
    subst (Matches (outcome_answer (c.quotient UnsignedLong x y))) (sym (taken Divqu x y refl refl))
    (by_zero (low_bits UnsignedLong y == 0) (y == 0) (c.word_or_overflow UnsignedLong (pos q)) (rt.Answers (x / y))
    (zero_test UnsignedLong y k refl refl) (word_that_fits UnsignedLong (pos q) (pos q) (x / y) (fits_unsigned_long q small) (long_of q (x / y) same small)))

remainder_unsigned_long : (x y : ℕ) → extension UnsignedLong x ≡ x → extension UnsignedLong y ≡ y → Matches (outcome_answer (c.remainder UnsignedLong x y)) (words_division Remqu x y)
remainder_unsigned_long x y e k =
    let q : ℕ = x % 2 ^ 64 / (y % 2 ^ 64) in
    let r : ℕ = x % 2 ^ 64 % (y % 2 ^ 64) in
    let small : q < 2 ^ 64 = omega (arith, quotient_most (x % 2 ^ 64) (y % 2 ^ 64)) in
    let little : r < 2 ^ 64 = omega (arith, remainder_most (x % 2 ^ 64) (y % 2 ^ 64)) in
    let same : r ≡ x % y = ap (λ n. n % (y % 2 ^ 64)) e ∙ ap (λ n. x % n) k in
    subst (Matches (outcome_answer (c.remainder UnsignedLong x y))) (sym (taken Remqu x y refl refl))
    (by_zero (low_bits UnsignedLong y == 0) (y == 0) (c.checked_remainder UnsignedLong (value UnsignedLong x) (value UnsignedLong y)) (rt.Answers (x % y))
    (zero_test UnsignedLong y k refl refl) (word_that_fits UnsignedLong (pos q) (pos r) (x % y) (fits_unsigned_long q small) (long_of r (x % y) same little)))

quotient_unsigned_int : (x y : ℕ) → extension UnsignedInt x ≡ x → extension UnsignedInt y ≡ y → Matches (outcome_answer (c.quotient UnsignedInt x y)) (words_division Divlu x y)
quotient_unsigned_int x y e k =
    let q : ℕ = x % 2 ^ 32 / (y % 2 ^ 32) in
    let small : q < 2 ^ 32 = omega (arith, quotient_most (x % 2 ^ 32) (y % 2 ^ 32)) in
    subst (Matches (outcome_answer (c.quotient UnsignedInt x y))) (sym (taken Divlu x y (extended x e) (extended y k)))
    (by_zero (low_bits UnsignedInt y == 0) (y == 0) (c.word_or_overflow UnsignedInt (pos q)) (rt.Answers (sign_extension w32 q))
    (zero_test UnsignedInt y k refl refl) (word_that_fits UnsignedInt (pos q) (pos q) (sign_extension w32 q) (fits_unsigned_int q small) (int_of q)))

remainder_unsigned_int : (x y : ℕ) → extension UnsignedInt x ≡ x → extension UnsignedInt y ≡ y → Matches (outcome_answer (c.remainder UnsignedInt x y)) (words_division Remlu x y)
remainder_unsigned_int x y e k =
    let q : ℕ = x % 2 ^ 32 / (y % 2 ^ 32) in
    let r : ℕ = x % 2 ^ 32 % (y % 2 ^ 32) in
    let small : q < 2 ^ 32 = omega (arith, quotient_most (x % 2 ^ 32) (y % 2 ^ 32)) in
    subst (Matches (outcome_answer (c.remainder UnsignedInt x y))) (sym (taken Remlu x y (extended x e) (extended y k)))
    (by_zero (low_bits UnsignedInt y == 0) (y == 0) (c.checked_remainder UnsignedInt (value UnsignedInt x) (value UnsignedInt y)) (rt.Answers (sign_extension w32 r))
    (zero_test UnsignedInt y k refl refl) (word_that_fits UnsignedInt (pos q) (pos r) (sign_extension w32 r) (fits_unsigned_int q small) (int_of r)))

-- ---- of every type

pub quotient_matches : (m : Memory) (ty : VmType) (a b : Value) → Matches (binary_answer m Divide ty a b) (division_answer (quotient_routine ty) (Plain a) (Plain b))
quotient_matches m S32 a b = two_numbers Int a b (λ t x y. outcome_answer (c.quotient t x y)) (λ a b. division_answer Divl (Plain a) (Plain b)) quotient_signed_int
quotient_matches m U32 a b = two_numbers UnsignedInt a b (λ t x y. outcome_answer (c.quotient t x y)) (λ a b. division_answer Divlu (Plain a) (Plain b)) quotient_unsigned_int
quotient_matches m S64 a b = two_numbers Long a b (λ t x y. outcome_answer (c.quotient t x y)) (λ a b. division_answer Divq (Plain a) (Plain b)) quotient_signed_long
quotient_matches m U64 a b = two_numbers UnsignedLong a b (λ t x y. outcome_answer (c.quotient t x y)) (λ a b. division_answer Divqu (Plain a) (Plain b)) quotient_unsigned_long
quotient_matches m P64 a b = tt

pub remainder_matches : (m : Memory) (ty : VmType) (a b : Value) → Matches (binary_answer m Remainder ty a b) (division_answer (remainder_routine ty) (Plain a) (Plain b))
remainder_matches m S32 a b = two_numbers Int a b (λ t x y. outcome_answer (c.remainder t x y)) (λ a b. division_answer Reml (Plain a) (Plain b)) remainder_signed_int
remainder_matches m U32 a b = two_numbers UnsignedInt a b (λ t x y. outcome_answer (c.remainder t x y)) (λ a b. division_answer Remlu (Plain a) (Plain b)) remainder_unsigned_int
remainder_matches m S64 a b = two_numbers Long a b (λ t x y. outcome_answer (c.remainder t x y)) (λ a b. division_answer Remq (Plain a) (Plain b)) remainder_signed_long
remainder_matches m U64 a b = two_numbers UnsignedLong a b (λ t x y. outcome_answer (c.remainder t x y)) (λ a b. division_answer Remqu (Plain a) (Plain b)) remainder_unsigned_long
remainder_matches m P64 a b = tt

-- ---- the code

module _ (widest own : ℕ) (s : Temps) (o : Outer) (d a b : ℕ) (r : DivisionRoutine) where
  -- what is held behind the dividend, the divisor, the answer and the result
  dividend : Temps
  dividend = put holder_eq (Fixed 24) (s (Temp a)) (without (is_emptied (i.ToFixed Dividend a)) s)

  divisor : Temps
  divisor = put holder_eq (Fixed 25) (dividend (Temp b)) (without (is_emptied (i.ToFixed Divisor b)) dividend)

  answered : Content → Temps
  answered w = put holder_eq (Fixed 27) w (without (is_emptied (i.Divide r)) divisor)

  named : Content → Temps
  named w = put holder_eq (Temp d) (answered w (Fixed 27)) (without (is_emptied (i.FromFixed d Answer)) (answered w))

  on_answer : contents.ContentAnswer → Ran
  on_answer e = goes_with (i.Divide r) divisor (writes e o) (λ t p. runs widest (i.FromFixed d Answer ∷ []) own t p)

  division_runs : runs widest (division_items r d a b) own s o ≡ on_answer (division_answer r (s (Temp a)) (s (Temp b)))
  unfolding dividend divisor on_answer
  division_runs = refl

  answers_come : (w : vm.Answer) (e : contents.ContentAnswer) → Matches w e → CodeAnswers s o d w (on_answer e)
  unfolding dividend divisor answered named on_answer
  answers_come (v.Gives w) e m = record {
    after = named (Plain w);
    goes_on = ap (λ e. goes_with (i.Divide r) divisor (writes e o) (λ t p. runs widest (i.FromFixed d Answer ∷ []) own t p)) m;
    holds = put_here d (Plain w) (without (is_emptied (i.FromFixed d Answer)) (answered (Plain w)));
    kept = λ t is other. put_beside d (Plain w) (without (is_emptied (i.FromFixed d Answer)) (answered (Plain w))) (Temp t) other;
  }
  answers_come (v.TrapsWith code) e m = ap (λ e. goes_with (i.Divide r) divisor (writes e o) (λ t p. runs widest (i.FromFixed d Answer ∷ []) own t p)) m
  answers_come v.Fails e m = tt

  pub division_comes : (x y : Value) (w : vm.Answer) → s (Temp a) ≡ Plain x → s (Temp b) ≡ Plain y →
      Matches w (division_answer r (Plain x) (Plain y)) → CodeAnswers s o d w (runs widest (division_items r d a b) own s o)
  division_comes x y w ha hb m =
      subst (CodeAnswers s o d w) (sym (division_runs ∙ ap (λ c. on_answer (division_answer r c (s (Temp b)))) ha ∙ ap (λ c. on_answer (division_answer r (Plain x) c)) hb))
      (answers_come w (division_answer r (Plain x) (Plain y)) m)

pub quotients_done : BinaryIsDone Divide
quotients_done ty widest own d a b s o x y i j ha hb =
    division_comes widest own s o d a b (quotient_routine ty) x y (binary_answer o.memory Divide ty x y) ha hb (quotient_matches o.memory ty x y)

pub remainders_done : BinaryIsDone Remainder
remainders_done ty widest own d a b s o x y i j ha hb =
    division_comes widest own s o d a b (remainder_routine ty) x y (binary_answer o.memory Remainder ty x y) ha hb (remainder_matches o.memory ty x y)
