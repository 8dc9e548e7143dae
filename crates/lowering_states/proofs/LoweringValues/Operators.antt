-- Operators between integers: the instruction gives what the operator does.
use Rattle.std.proofs.Common.{◌≡◌, ◌≢◌, ℕ, ◌<◌, ◌≤◌, ◌^◌, ◌%◌, ℤ, pos, negsuc, Bool, true, false, ◌&&◌, Option, Some, None, refl, sym, ap, ◌∙◌, subst, arith, eq-eqb, le-leb}
use Rattle.std.specs.Prelude.{if◌then◌else◌, unsigned_abs, int_le, int_lt}
use Rattle.std.proofs.lemmas.Bool.{ltb-true, and_parts}
use mir.Val.{bits}
use Rattle.mem_model.specs.declared.value.Value.TheVariants.{Word}
use Rattle.mem_model.specs.Memory.{Memory}
use Rattle.mem_model.specs.World.{Outer}
use Rattle.bk_arithmetic.specs.declared.integer_type.IntegerType.{IntegerType}
use Rattle.bk_arithmetic.specs.declared.integer_type.IntegerType.TheVariants.{Char, UnsignedChar, Short, UnsignedShort, Int, UnsignedInt, Long, UnsignedLong}
use Rattle.bk_arithmetic.specs.declared.outcome.ArithmeticOutcome.{ArithmeticOutcome}
use Rattle.bk_arithmetic.specs.declared.outcome.ArithmeticOutcome.TheVariants as o
use Rattle.bk_arithmetic.specs.IntegerTypes.{width, is_signed, promote, fits}
use Rattle.bk_arithmetic.specs.Words.{value, extension, is_word, residue, word}
use Rattle.bk_arithmetic.specs.Operations.{shift_count, left_shift_by, right_shift, right_shift_by}
use Rattle.bk_arithmetic.proofs.LowBits.{extension-below, narrow}
use Rattle.bk_arithmetic.proofs.Fits.{fits-wide}
use Rattle.bk_arithmetic.proofs.Values.{word-value}
use Rattle.c_tree.specs.declared.expressions.BinaryOp.TheVariants as b
use Rattle.suifvm_ir.specs.declared.insn.VmUnaryOp as vu
use Rattle.suifvm_ir.specs.declared.insn.VmBinaryOp as vb
use Rattle.suifvm_ir.specs.declared.insn.VmBinaryOp.TheVariants.{Add, Subtract, Multiply, Divide, Remainder, And, Or, ExclusiveOr}
use Rattle.suifvm_ir.specs.declared.insn.ShiftOp.{ShiftOp}
use Rattle.suifvm_ir.specs.declared.insn.ShiftOp.TheVariants.{Left}
use Rattle.suifvm_ir.specs.declared.insn.CompareOp.{CompareOp}
use Rattle.suifvm_ir.specs.declared.insn.CompareOp.TheVariants.{Equal, NotEqual, Less, LessOrEqual}
use Rattle.suifvm_meaning.specs.declared.answer.Answer.{Answer}
use Rattle.suifvm_meaning.specs.declared.answer.Answer.TheVariants.{Fails}
use Rattle.suifvm_meaning.specs.Operations as vm
use Rattle.suifvm_meaning.specs.Effect.{writes}
use Rattle.suifvm_meaning.specs.Behave.{Registers}
use Rattle.lowering_code.specs.Registers.{register_type}
use Rattle.lowering_code.specs.Expressions as lowering
use Rattle.lowering_code.specs.Expressions.{plain_of, operation_of, operation_insn}
use Rattle.lowering_states.specs.lowering_values.Laws.{OperatorsCorrespond}
use Rattle.lowering_states.proofs.LoweringValues.Integers.{word_is, residue_is, promoted_word, signed_word, residue_small}

pub word_true : (t : IntegerType) (n : ℕ) → extension t n ≡ n → is_word t n ≡ true
word_true t n e = eq-eqb (extension t n) n e

-- ---- answers on words

pub on_number_is : (t : IntegerType) (n : ℕ) (f : IntegerType → ℕ → Answer) → is_word t n ≡ true → vm.on_number (Some t) (Word n) f ≡ f t n
on_number_is t n f w = ap (λ x. if x then f t n else Fails) w

pub on_numbers_is : (t : IntegerType) (x y : ℕ) (f : IntegerType → ℕ → ℕ → Answer) → is_word t x ≡ true → is_word t y ≡ true → vm.on_numbers (Some t) (Word x) (Word y) f ≡ f t x y
on_numbers_is t x y f wx wy = on_number_is t x (λ u k. vm.on_number (Some t) (Word y) (λ u1 j. f u k j)) wx ∙ on_number_is t y (λ u j. f t x j) wy

pub binary_is : (t : IntegerType) (m : Memory) (op : vb.VmBinaryOp) (x y : ℕ) → promote t ≡ t → is_word t x ≡ true → is_word t y ≡ true
    → vm.binary_answer m op (register_type (plain_of t)) (Word x) (Word y) ≡ vm.binary_number op t x y
binary_is Char m op x y p wx wy = absurd (cc)
binary_is UnsignedChar m op x y p wx wy = absurd (cc)
binary_is Short m op x y p wx wy = absurd (cc)
binary_is UnsignedShort m op x y p wx wy = absurd (cc)
binary_is Int m op x y p wx wy = on_numbers_is Int x y (vm.binary_number op) wx wy
binary_is UnsignedInt m op x y p wx wy = on_numbers_is UnsignedInt x y (vm.binary_number op) wx wy
binary_is Long m op x y p wx wy = on_numbers_is Long x y (vm.binary_number op) wx wy
binary_is UnsignedLong m op x y p wx wy = on_numbers_is UnsignedLong x y (vm.binary_number op) wx wy

pub compare_is : (t : IntegerType) (m : Memory) (op : CompareOp) (x y : ℕ) → promote t ≡ t → is_word t x ≡ true → is_word t y ≡ true
    → vm.compare_answer m op (register_type (plain_of t)) (Word x) (Word y) ≡ vm.comparison_answer op t x y
compare_is Char m op x y p wx wy = absurd (cc)
compare_is UnsignedChar m op x y p wx wy = absurd (cc)
compare_is Short m op x y p wx wy = absurd (cc)
compare_is UnsignedShort m op x y p wx wy = absurd (cc)
compare_is Int m op x y p wx wy = on_numbers_is Int x y (vm.comparison_answer op) wx wy
compare_is UnsignedInt m op x y p wx wy = on_numbers_is UnsignedInt x y (vm.comparison_answer op) wx wy
compare_is Long m op x y p wx wy = on_numbers_is Long x y (vm.comparison_answer op) wx wy
compare_is UnsignedLong m op x y p wx wy = on_numbers_is UnsignedLong x y (vm.comparison_answer op) wx wy

pub unary_is : (t : IntegerType) (op : vu.VmUnaryOp) (x : ℕ) → is_word t x ≡ true → vm.unary_answer op (register_type (plain_of t)) (Word x) ≡ vm.unary_number op (promote t) x
unary_is Char op x w = on_number_is (promote Char) x (vm.unary_number op) (word_true (promote Char) x (promoted_word Char x w))
unary_is UnsignedChar op x w = on_number_is (promote UnsignedChar) x (vm.unary_number op) (word_true (promote UnsignedChar) x (promoted_word UnsignedChar x w))
unary_is Short op x w = on_number_is (promote Short) x (vm.unary_number op) (word_true (promote Short) x (promoted_word Short x w))
unary_is UnsignedShort op x w = on_number_is (promote UnsignedShort) x (vm.unary_number op) (word_true (promote UnsignedShort) x (promoted_word UnsignedShort x w))
unary_is Int op x w = on_number_is (promote Int) x (vm.unary_number op) (word_true (promote Int) x (promoted_word Int x w))
unary_is UnsignedInt op x w = on_number_is (promote UnsignedInt) x (vm.unary_number op) (word_true (promote UnsignedInt) x (promoted_word UnsignedInt x w))
unary_is Long op x w = on_number_is (promote Long) x (vm.unary_number op) (word_true (promote Long) x (promoted_word Long x w))
unary_is UnsignedLong op x w = on_number_is (promote UnsignedLong) x (vm.unary_number op) (word_true (promote UnsignedLong) x (promoted_word UnsignedLong x w))

count_word : (c : IntegerType) (y : ℕ) → is_word c y ≡ true → is_word UnsignedLong y ≡ true
count_word c y w =
    let below : extension c y < 2 ^ 64 = extension-below c y in
    let e : extension c y ≡ y = word_is c y w in
    word_true UnsignedLong y (small y (subst (λ k. k < 2 ^ 64) e below))
  where
    small : (k : ℕ) → k < 2 ^ 64 → k % 2 ^ 64 ≡ k
    small k lt = omega (arith, lt)

shift_is : (t c : IntegerType) (op : ShiftOp) (x y : ℕ) → promote t ≡ t → is_word t x ≡ true → is_word c y ≡ true
    → vm.shift_answer op (register_type (plain_of t)) (Word x) (Word y) ≡ vm.shift_number op t x y
shift_is Char c op x y p wx wy = absurd (cc)
shift_is UnsignedChar c op x y p wx wy = absurd (cc)
shift_is Short c op x y p wx wy = absurd (cc)
shift_is UnsignedShort c op x y p wx wy = absurd (cc)
shift_is Int c op x y p wx wy = on_number_is Int x (vm.shift_by op (Word y)) wx ∙ on_number_is UnsignedLong y (λ u k. vm.shift_number op Int x k) (count_word c y wy)
shift_is UnsignedInt c op x y p wx wy = on_number_is UnsignedInt x (vm.shift_by op (Word y)) wx ∙ on_number_is UnsignedLong y (λ u k. vm.shift_number op UnsignedInt x k) (count_word c y wy)
shift_is Long c op x y p wx wy = on_number_is Long x (vm.shift_by op (Word y)) wx ∙ on_number_is UnsignedLong y (λ u k. vm.shift_number op Long x k) (count_word c y wy)
shift_is UnsignedLong c op x y p wx wy = on_number_is UnsignedLong x (vm.shift_by op (Word y)) wx ∙ on_number_is UnsignedLong y (λ u k. vm.shift_number op UnsignedLong x k) (count_word c y wy)

-- ---- counts of shifts

int_fits : (j : ℕ) → j < 64 → fits Int (pos j) ≡ true
int_fits j lt = le-leb j 2147483647 (omega (arith, lt))

-- a count that is a small value is the same word in every type
small_word : (c : IntegerType) (y j : ℕ) → is_word c y ≡ true → value c y ≡ pos j → j < 64 → y ≡ j
small_word Char y j w e lt = sym (residue_is Char y tt w) ∙ ap residue e ∙ residue_small j (omega (arith, lt))
small_word UnsignedChar y j w e lt = sym (residue_is UnsignedChar y tt w) ∙ ap residue e ∙ residue_small j (omega (arith, lt))
small_word Short y j w e lt = sym (residue_is Short y tt w) ∙ ap residue e ∙ residue_small j (omega (arith, lt))
small_word UnsignedShort y j w e lt = sym (residue_is UnsignedShort y tt w) ∙ ap residue e ∙ residue_small j (omega (arith, lt))
small_word Int y j w e lt = sym (residue_is Int y tt w) ∙ ap residue e ∙ residue_small j (omega (arith, lt))
small_word UnsignedInt y j w e lt =
    let f = int_fits j lt in
    sym (word_is UnsignedInt y w) ∙ sym (word-value UnsignedInt y) ∙ ap (word UnsignedInt) e
    ∙ signed_word Int (pos j) refl (fits-wide Int (pos j) refl f) f ∙ residue_small j (omega (arith, lt))
small_word Long y j w e lt = sym (residue_is Long y tt w) ∙ ap residue e ∙ residue_small j (omega (arith, lt))
small_word UnsignedLong y j w e lt = sym (residue_is UnsignedLong y tt w) ∙ ap residue e ∙ residue_small j (omega (arith, lt))

mod_small : (j : ℕ) → j < 64 → j % 2 ^ 64 ≡ j
mod_small j lt = omega (arith, lt)

count_if : (t c : IntegerType) (y : ℕ) → is_word c y ≡ true → (k : ℕ) → shift_count t c y ≡ Some k → shift_count t UnsignedLong y ≡ Some k
count_if t c y w k e = by_value (value c y) refl e
  where
    by_value : (z : ℤ) → value c y ≡ z → (if int_le (pos 0) z && int_lt z (pos (bits (width t))) then Some (unsigned_abs z) else None) ≡ Some k → shift_count t UnsignedLong y ≡ Some k
    by_value (negsuc j) ez h = absurd (cc)
    by_value (pos j) ez h = by_test (int_le (pos 0) (pos j) && int_lt (pos j) (pos (bits (width t)))) refl h
      where
        by_test : (q : Bool) → (int_le (pos 0) (pos j) && int_lt (pos j) (pos (bits (width t)))) ≡ q → (if q then Some j else None) ≡ Some k → shift_count t UnsignedLong y ≡ Some k
        by_test false eq g = absurd (cc)
        by_test true eq g =
            let lt : j < bits (width t) = ltb-true j (bits (width t)) (and_parts (int_le (pos 0) (pos j)) (int_lt (pos j) (pos (bits (width t)))) eq).1 in
            let few : bits (width t) ≤ 64 = narrow t in
            let same : y ≡ j = small_word c y j w ez (omega (arith, lt, few)) in
            let long : value UnsignedLong y ≡ pos j = ap (value UnsignedLong) same ∙ ap pos (mod_small j (omega (arith, lt, few))) in
            ap (λ z. if int_le (pos 0) z && int_lt z (pos (bits (width t))) then Some (unsigned_abs z) else None) long
            ∙ ap (λ q. if q then Some j else None) eq ∙ g

counts : (t c : IntegerType) (y : ℕ) → is_word c y ≡ true → (f : Option ℕ → ArithmeticOutcome) → f None ≡ o.Undefined → f (shift_count t c y) ≢ o.Undefined → f (shift_count t UnsignedLong y) ≡ f (shift_count t c y)
counts t c y w f none ne = by_count (shift_count t c y) refl ne
  where
    by_count : (x : Option ℕ) → shift_count t c y ≡ x → f x ≢ o.Undefined → f (shift_count t UnsignedLong y) ≡ f (shift_count t c y)
    by_count None e d = absurd (d none)
    by_count (Some k) e d = ap f (count_if t c y w k e) ∙ ap f (sym e)

-- ---- instructions

module _ (t c : IntegerType) (own : ℕ) (r : Registers) (u : Outer) (left right x y : ℕ) (p : promote t ≡ t) (el : r left ≡ Word x) (er : r right ≡ Word y) (wx : is_word t x ≡ true) (wy : is_word c y ≡ true) where
  calculates : (op : vb.VmBinaryOp) → c ≡ t → writes (vm.binary_answer u.memory op (register_type (plain_of t)) (r left) (r right)) u ≡ writes (vm.binary_number op t x y) u
  calculates op e =
      ap (λ a. writes a u) (ap (λ a. vm.binary_answer u.memory op (register_type (plain_of t)) a (r right)) el ∙ ap (λ a. vm.binary_answer u.memory op (register_type (plain_of t)) (Word x) a) er
      ∙ binary_is t u.memory op x y p wx (subst (λ z. is_word z y ≡ true) e wy))

  compares : (op : CompareOp) → c ≡ t → writes (vm.compare_answer u.memory op (register_type (plain_of t)) (r left) (r right)) u ≡ writes (vm.comparison_answer op t x y) u
  compares op e =
      ap (λ a. writes a u) (ap (λ a. vm.compare_answer u.memory op (register_type (plain_of t)) a (r right)) el ∙ ap (λ a. vm.compare_answer u.memory op (register_type (plain_of t)) (Word x) a) er
      ∙ compare_is t u.memory op x y p wx (subst (λ z. is_word z y ≡ true) e wy))

  compares_back : (op : CompareOp) → c ≡ t → writes (vm.compare_answer u.memory op (register_type (plain_of t)) (r right) (r left)) u ≡ writes (vm.comparison_answer op t y x) u
  compares_back op e =
      ap (λ a. writes a u) (ap (λ a. vm.compare_answer u.memory op (register_type (plain_of t)) a (r left)) er ∙ ap (λ a. vm.compare_answer u.memory op (register_type (plain_of t)) (Word y) a) el
      ∙ compare_is t u.memory op y x p (subst (λ z. is_word z y ≡ true) e wy) wx)

  shifts : (op : ShiftOp) → writes (vm.shift_answer op (register_type (plain_of t)) (r left) (r right)) u ≡ writes (vm.shift_number op t x y) u
  shifts op =
      ap (λ a. writes a u) (ap (λ a. vm.shift_answer op (register_type (plain_of t)) a (r right)) el ∙ ap (λ a. vm.shift_answer op (register_type (plain_of t)) (Word x) a) er
      ∙ shift_is t c op x y p wx wy)

-- the right shift of each promoted type
right_number : (t : IntegerType) (x y : ℕ) → promote t ≡ t → vm.shift_number (lowering.right_shift_kind (is_signed t)) t x y ≡ vm.outcome_answer (right_shift t UnsignedLong x y)
right_number Char x y p = absurd (cc)
right_number UnsignedChar x y p = absurd (cc)
right_number Short x y p = absurd (cc)
right_number UnsignedShort x y p = absurd (cc)
right_number Int x y p = refl
right_number UnsignedInt x y p = refl
right_number Long x y p = refl
right_number UnsignedLong x y p = refl

pub operators_correspond : OperatorsCorrespond
operators_correspond b.LogicalOr t c d l q own r u x y p same el er wx wy ne = absurd (ne refl)
operators_correspond b.LogicalAnd t c d l q own r u x y p same el er wx wy ne = absurd (ne refl)
operators_correspond b.Or t c d l q own r u x y p same el er wx wy ne = calculates t c own r u l q x y p el er wx wy Or (same refl)
operators_correspond b.Xor t c d l q own r u x y p same el er wx wy ne = calculates t c own r u l q x y p el er wx wy ExclusiveOr (same refl)
operators_correspond b.And t c d l q own r u x y p same el er wx wy ne = calculates t c own r u l q x y p el er wx wy And (same refl)
operators_correspond b.Add t c d l q own r u x y p same el er wx wy ne = calculates t c own r u l q x y p el er wx wy Add (same refl)
operators_correspond b.Subtract t c d l q own r u x y p same el er wx wy ne = calculates t c own r u l q x y p el er wx wy Subtract (same refl)
operators_correspond b.Multiply t c d l q own r u x y p same el er wx wy ne = calculates t c own r u l q x y p el er wx wy Multiply (same refl)
operators_correspond b.Divide t c d l q own r u x y p same el er wx wy ne = calculates t c own r u l q x y p el er wx wy Divide (same refl)
operators_correspond b.Remainder t c d l q own r u x y p same el er wx wy ne = calculates t c own r u l q x y p el er wx wy Remainder (same refl)
operators_correspond b.Equal t c d l q own r u x y p same el er wx wy ne = compares t c own r u l q x y p el er wx wy Equal (same refl)
operators_correspond b.NotEqual t c d l q own r u x y p same el er wx wy ne = compares t c own r u l q x y p el er wx wy NotEqual (same refl)
operators_correspond b.Less t c d l q own r u x y p same el er wx wy ne = compares t c own r u l q x y p el er wx wy Less (same refl)
operators_correspond b.LessEqual t c d l q own r u x y p same el er wx wy ne = compares t c own r u l q x y p el er wx wy LessOrEqual (same refl)
operators_correspond b.Greater t c d l q own r u x y p same el er wx wy ne = compares_back t c own r u l q x y p el er wx wy Less (same refl)
operators_correspond b.GreaterEqual t c d l q own r u x y p same el er wx wy ne = compares_back t c own r u l q x y p el er wx wy LessOrEqual (same refl)
operators_correspond b.ShiftLeft t c d l q own r u x y p same el er wx wy ne =
    shifts t c own r u l q x y p el er wx wy Left ∙ ap (λ a. writes (vm.outcome_answer a) u) (counts t c y wy (left_shift_by t x) refl ne)
operators_correspond b.ShiftRight t c d l q own r u x y p same el er wx wy ne =
    shifted (lowering.right_shift_kind (is_signed t)) refl
  where
    shifted : (op : ShiftOp) → lowering.right_shift_kind (is_signed t) ≡ op → writes (vm.shift_answer op (register_type (plain_of t)) (r l) (r q)) u ≡ writes (vm.outcome_answer (right_shift t c x y)) u
    shifted op e =
        shifts t c own r u l q x y p el er wx wy op ∙ ap (λ z. writes (vm.shift_number z t x y) u) (sym e) ∙ ap (λ a. writes a u) (right_number t x y p)
        ∙ ap (λ a. writes (vm.outcome_answer a) u) (counts t c y wy (right_shift_by t x) refl ne)
