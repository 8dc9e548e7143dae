-- What the operations of the machine make of words that hold numbers is what the operators of C make of them.
use Rattle.std.proofs.Common.{◌≡◌, ℕ, suc, ◌+◌, ◌-◌, ◌%◌, ◌^◌, ◌<◌, ◌≤◌, ◌⊎◌, inl, inr, ltb, Bool, true, false, ℤ, pos, negsuc, ◌+ℤ◌, ◌-ℤ◌, ◌*ℤ◌, neg_ℤ, Option, Some, None, refl, sym, ap, ◌∙◌, subst, arith}
use Rattle.std.specs.Prelude.{if◌then◌else◌, option_map, bit_and, bit_or, bit_xor}
use Rattle.std.specs.Int.{Width, w32, w64}
use Rattle.std.specs.Int.RustNames.{FitsSigned}
use Rattle.std.proofs.lemmas.Int.{ints}
use Rattle.std.proofs.lemmas.Bool.{eqb-true, ltb-true, ltb-false}
use Rattle.std.proofs.lemmas.Bool.Decides.{nat_tests}
use Rattle.mem_model.specs.declared.value.Value.{Value}
use Rattle.mem_model.specs.declared.value.Value.TheVariants.{Word, Address, Unset}
use Rattle.mem_model.specs.Memory.{Memory}
use Rattle.mem_model.specs.Pointers.{pointer_plus, pointer_minus}
use Rattle.alpha_isa.specs.Arithmetic as isa
use Rattle.alpha_isa.specs.Arithmetic.{word_at, word_from, signed_value, sign_extension, checked_effect, operation_effect}
use Rattle.alpha_isa.proofs.Arithmetic.{signed-word_from}
use Rattle.bk_arithmetic.specs.declared.integer_type.IntegerType.{IntegerType}
use Rattle.bk_arithmetic.specs.declared.integer_type.IntegerType.TheVariants.{Int, UnsignedInt, Long, UnsignedLong}
use Rattle.bk_arithmetic.specs.declared.outcome.ArithmeticOutcome.TheVariants as outcome
use Rattle.bk_arithmetic.specs.IntegerTypes as types
use Rattle.bk_arithmetic.specs.Words.{value, extension, is_word, residue}
use Rattle.bk_arithmetic.specs.Words as words
use Rattle.bk_arithmetic.specs.Operations as c
use Rattle.bk_arithmetic.proofs.LowBits.{extension-below}
use Rattle.bk_arithmetic.proofs.Fits.{fits-wide, residue-fits}
use Rattle.bk_arithmetic.proofs.Sums.{word-sum, word-difference, word-product, word-negation}
use Rattle.bk_arithmetic.proofs.Bits.{conjunction-words, disjunction-words, exclusive-words}
use Rattle.suifvm_ir.specs.declared.types.VmType.{VmType}
use Rattle.suifvm_ir.specs.declared.types.VmType.TheVariants.{S32, U32, S64, U64, P64}
use Rattle.suifvm_ir.specs.declared.insn.VmUnaryOp.TheVariants.{Move, Negate, Complement}
use Rattle.suifvm_ir.specs.declared.insn.VmBinaryOp.TheVariants.{Add, Subtract, Multiply, And, Or, ExclusiveOr}
use Rattle.suifvm_meaning.specs.declared.answer.Answer as vm
use Rattle.suifvm_meaning.specs.declared.answer.Answer.TheVariants as v
use Rattle.suifvm_meaning.specs.Operations.{on_number, on_numbers, outcome_answer, word_answer, value_answer, distance_answer, unary_answer, binary_answer}
use Rattle.temp_ir.specs.declared.operation.Operation.TheVariants as o
use Rattle.alloc_model.specs.Contents as contents
use Rattle.alloc_model.specs.Contents.{Content, Plain, word_content, ContentAnswer, Gives, distance_word, content_answer, effect_answer, operate_answer}
use Rattle.selection_forms.specs.alpha_forms.Operations.{sum_op, difference_op, product_op}
use Rattle.selection_forms.proofs.AlphaForms.Prepares.{Matches}

-- ---- what asks for a number, and for two

pub one_number : (t : IntegerType) (a : Value) (f : IntegerType → ℕ → vm.Answer) (g : Value → ContentAnswer) →
    ((n : ℕ) → extension t n ≡ n → Matches (f t n) (g (Word n))) → Matches (on_number (Some t) a f) (g a)
one_number t (Word n) f g h = by_word (is_word t n) refl
  where
    by_word : (b : Bool) → is_word t n ≡ b → Matches (if b then f t n else v.Fails) (g (Word n))
    by_word true e = h n (eqb-true (extension t n) n e)
    by_word false e = tt
one_number t (Address p) f g h = tt
one_number t Unset f g h = tt

pub two_numbers : (t : IntegerType) (a b : Value) (f : IntegerType → (x y : ℕ) → vm.Answer) (g : (a b : Value) → ContentAnswer) →
    ((x y : ℕ) → extension t x ≡ x → extension t y ≡ y → Matches (f t x y) (g (Word x) (Word y))) →
    Matches (on_numbers (Some t) a b f) (g a b)
two_numbers t a b f g h =
    one_number t a (λ u x. on_number (Some t) b (λ r y. f u x y)) (λ a. g a b)
    (λ x e. one_number t b (λ r y. f t x y) (λ b. g (Word x) b) (λ y k. h x y e k))

small : (t : IntegerType) (n : ℕ) → extension t n ≡ n → n < 2 ^ 64
small t n e = subst (λ k. k < 2 ^ 64) e (extension-below t n)

-- ---- results that have to fit

pub fits_int : (z : ℤ) → types.fits Int z ≡ isa.fits_signed w32 z
fits_int (pos n) = grind (arith, nat_tests)
fits_int (negsuc n) = grind (arith, nat_tests)

pub fits_long : (z : ℤ) → types.fits Long z ≡ isa.fits_signed w64 z
fits_long (pos n) = grind (arith, nat_tests)
fits_long (negsuc n) = grind (arith, nat_tests)

fits_number : (w : Width) (z : ℤ) → isa.fits_signed w z ≡ true → FitsSigned w z
fits_number w (pos n) e = record { sfits = ltb-true n _ e }
fits_number w (negsuc n) e = record { sfits = ltb-true n _ e }

pub int_word : (z : ℤ) → types.fits Int z ≡ true → words.word Int z ≡ word_from z
int_word z e =
    ap (λ n. extension Int n) (residue-fits z (fits-wide Int z refl e))
    ∙ ap word_from (signed-word_from w32 z (omega arith) (fits_number w32 z (sym (fits_int z) ∙ e)))

pub long_word : (z : ℤ) → types.fits Long z ≡ true → words.word Long z ≡ word_from z
long_word z e = ap (λ n. extension Long n) (residue-fits z f) ∙ in_word z f
  where
    f : FitsSigned w64 z
    f = fits-wide Long z refl e

    in_word : (z : ℤ) → FitsSigned w64 z → word_from z % 2 ^ 64 ≡ word_from z
    in_word (pos n) g = omega (arith, g.sfits)
    in_word (negsuc n) g = omega arith

pub checked_int : (z : ℤ) → Matches (outcome_answer (c.word_or_overflow Int z)) (effect_answer (checked_effect w32 z))
checked_int z = by_fit (types.fits Int z) refl (sym (fits_int z))
  where
    by_fit : (b : Bool) → types.fits Int z ≡ b → isa.fits_signed w32 z ≡ types.fits Int z →
        Matches (outcome_answer (if b then outcome.Word (words.word Int z) else c.overflow)) (effect_answer (checked_effect w32 z))
    by_fit true e f = ap (λ b. effect_answer (if b then isa.Gives (word_from z) else isa.Overflows)) (f ∙ e) ∙ ap contents.word_answer (sym (int_word z e))
    by_fit false e f = ap (λ b. effect_answer (if b then isa.Gives (word_from z) else isa.Overflows)) (f ∙ e)

pub checked_long : (z : ℤ) → Matches (outcome_answer (c.word_or_overflow Long z)) (effect_answer (checked_effect w64 z))
checked_long z = by_fit (types.fits Long z) refl (sym (fits_long z))
  where
    by_fit : (b : Bool) → types.fits Long z ≡ b → isa.fits_signed w64 z ≡ types.fits Long z →
        Matches (outcome_answer (if b then outcome.Word (words.word Long z) else c.overflow)) (effect_answer (checked_effect w64 z))
    by_fit true e f = ap (λ b. effect_answer (if b then isa.Gives (word_from z) else isa.Overflows)) (f ∙ e) ∙ ap contents.word_answer (sym (long_word z e))
    by_fit false e f = ap (λ b. effect_answer (if b then isa.Gives (word_from z) else isa.Overflows)) (f ∙ e)

-- ---- sums, differences, products

-- a residue is below 2^64
long_residue : (z : ℤ) → words.word Long z ≡ contents.residue z
long_residue (pos n) = omega arith
long_residue (negsuc n) = omega arith

pub pointer_matches : (r : Option Value) → Matches (value_answer r) (content_answer (option_map Plain r))
pointer_matches (Some a) = refl
pointer_matches None = tt

from_zero : (z : ℤ) → pos 0 -ℤ z ≡ neg_ℤ z
from_zero z = omega (arith, ints)

nothing_before : (n : ℕ) → 0 + n ≡ n
nothing_before n = omega arith

-- ---- complements

-- a word of 32 bits with their sign above them is small, or close to the end
by_half : (n l : ℕ) (b : Bool) → ltb l (2 ^ 31) ≡ b → l < 2 ^ 32 → word_from (if b then pos l else negsuc (2 ^ 32 - suc l)) ≡ n →
    (n < 2 ^ 31) ⊎ ((2 ^ 64 - 2 ^ 31 ≤ n) × (n < 2 ^ 64))
by_half n l true t small e = inl (let lt : l < 2 ^ 31 = ltb-true l (2 ^ 31) t in omega (arith, e))
by_half n l false t small e = inr (let ge : 2 ^ 31 ≤ l = ltb-false l (2 ^ 31) t in (omega (arith, e), omega (arith, e)))

pub long_half : (n : ℕ) → sign_extension w32 n ≡ n → (n < 2 ^ 31) ⊎ ((2 ^ 64 - 2 ^ 31 ≤ n) × (n < 2 ^ 64))
long_half n e = by_half n (n % 2 ^ 32) (ltb (n % 2 ^ 32) (2 ^ 31)) refl (omega arith) e

extended_by : (n l : ℕ) (b : Bool) → ltb l (2 ^ 31) ≡ b → l ≡ n % 2 ^ 32 → (n < 2 ^ 31) ⊎ ((2 ^ 64 - 2 ^ 31 ≤ n) × (n < 2 ^ 64)) →
    word_from (if b then pos l else negsuc (2 ^ 32 - suc l)) ≡ n
extended_by n l true t is (inl low) = omega (arith, is, low)
extended_by n l true t is (inr high) = let lt : l < 2 ^ 31 = ltb-true l (2 ^ 31) t in absurd (omega (arith, is, high.0, high.1))
extended_by n l false t is (inl low) = let ge : 2 ^ 31 ≤ l = ltb-false l (2 ^ 31) t in absurd (omega (arith, is, low))
extended_by n l false t is (inr high) = let ge : 2 ^ 31 ≤ l = ltb-false l (2 ^ 31) t in omega (arith, is, high.0, high.1)

-- and such numbers are extended as they are
pub half_long : (n : ℕ) → (n < 2 ^ 31) ⊎ ((2 ^ 64 - 2 ^ 31 ≤ n) × (n < 2 ^ 64)) → sign_extension w32 n ≡ n
half_long n h = extended_by n (n % 2 ^ 32) (ltb (n % 2 ^ 32) (2 ^ 31)) refl refl h

complement_half : (n : ℕ) → (n < 2 ^ 31) ⊎ ((2 ^ 64 - 2 ^ 31 ≤ n) × (n < 2 ^ 64)) →
    (2 ^ 64 - 1 - n < 2 ^ 31) ⊎ ((2 ^ 64 - 2 ^ 31 ≤ 2 ^ 64 - 1 - n) × (2 ^ 64 - 1 - n < 2 ^ 64))
complement_half n (inl low) = inr (omega arith, omega arith)
complement_half n (inr high) = inl (omega (arith, high.0, high.1))

complement_long : (n : ℕ) → sign_extension w32 n ≡ n → sign_extension w32 (2 ^ 64 - 1 - n) ≡ 2 ^ 64 - 1 - n
complement_long n e = half_long (2 ^ 64 - 1 - n) (complement_half n (long_half n e))

complement_quad : (n : ℕ) → 2 ^ 64 - 1 - n ≡ (2 ^ 64 - 1 - n) % 2 ^ 64
complement_quad n = omega arith

-- an operation on bits gives words of the type
of_words : (f : ℕ → ℕ → ℕ) (t : IntegerType) → ((a b : ℕ) → extension t (f (extension t a) (extension t b)) ≡ f (extension t a) (extension t b)) →
    (x y : ℕ) → extension t x ≡ x → extension t y ≡ y → f x y ≡ extension t (f x y)
of_words f t law x y e k =
    sym (subst (λ x. extension t (f x y) ≡ f x y) e (subst (λ y. extension t (f (extension t x) y) ≡ f (extension t x) y) k (law x y)))

module _ (m : Memory) where
  sum_pointer : (a b : Value) → Matches (binary_answer m Add P64 a b) (operate_answer m o.Addq (Plain a) (Plain b))
  sum_pointer (Address p) (Word n) = pointer_matches (pointer_plus m (Address p) (value Long n))
  sum_pointer (Word k) (Word n) = tt
  sum_pointer Unset (Word n) = tt
  sum_pointer (Address p) (Address q) = tt
  sum_pointer (Word k) (Address q) = tt
  sum_pointer Unset (Address q) = tt
  sum_pointer (Address p) Unset = tt
  sum_pointer (Word k) Unset = tt
  sum_pointer Unset Unset = tt

  pub sum_matches : (ty : VmType) (a b : Value) → Matches (binary_answer m Add ty a b) (operate_answer m (sum_op ty) (Plain a) (Plain b))
  sum_matches S32 a b =
      two_numbers Int a b (λ t x y. outcome_answer (c.sum t x y)) (λ a b. operate_answer m o.AddlV (Plain a) (Plain b))
      (λ x y e k. checked_int (value Int x +ℤ value Int y))
  sum_matches U32 a b =
      two_numbers UnsignedInt a b (λ t x y. outcome_answer (c.sum t x y)) (λ a b. operate_answer m o.Addl (Plain a) (Plain b))
      (λ x y e k. ap contents.word_answer (sym (word-sum UnsignedInt x y)))
  sum_matches S64 a b =
      two_numbers Long a b (λ t x y. outcome_answer (c.sum t x y)) (λ a b. operate_answer m o.AddqV (Plain a) (Plain b))
      (λ x y e k. checked_long (value Long x +ℤ value Long y))
  sum_matches U64 a b =
      two_numbers UnsignedLong a b (λ t x y. outcome_answer (c.sum t x y)) (λ a b. operate_answer m o.Addq (Plain a) (Plain b))
      (λ x y e k. ap contents.word_answer (sym (word-sum UnsignedLong x y)))
  sum_matches P64 a b = sum_pointer a b

  product_pointer : (a b : Value) → Matches (binary_answer m Multiply P64 a b) (operate_answer m o.Mulq (Plain a) (Plain b))
  product_pointer a b = tt

  pub product_matches : (ty : VmType) (a b : Value) → Matches (binary_answer m Multiply ty a b) (operate_answer m (product_op ty) (Plain a) (Plain b))
  product_matches S32 a b =
      two_numbers Int a b (λ t x y. outcome_answer (c.product t x y)) (λ a b. operate_answer m o.MullV (Plain a) (Plain b))
      (λ x y e k. checked_int (value Int x *ℤ value Int y))
  product_matches U32 a b =
      two_numbers UnsignedInt a b (λ t x y. outcome_answer (c.product t x y)) (λ a b. operate_answer m o.Mull (Plain a) (Plain b))
      (λ x y e k. ap contents.word_answer (sym (word-product UnsignedInt x y)))
  product_matches S64 a b =
      two_numbers Long a b (λ t x y. outcome_answer (c.product t x y)) (λ a b. operate_answer m o.MulqV (Plain a) (Plain b))
      (λ x y e k. checked_long (value Long x *ℤ value Long y))
  product_matches U64 a b =
      two_numbers UnsignedLong a b (λ t x y. outcome_answer (c.product t x y)) (λ a b. operate_answer m o.Mulq (Plain a) (Plain b))
      (λ x y e k. ap contents.word_answer (sym (word-product UnsignedLong x y)))
  product_matches P64 a b = product_pointer a b

  -- ---- bits

  pub and_matches : (ty : VmType) (a b : Value) → Matches (binary_answer m And ty a b) (operate_answer m o.And (Plain a) (Plain b))
  and_matches S32 a b =
      two_numbers Int a b (λ t x y. word_answer (c.conjunction t x y)) (λ a b. operate_answer m o.And (Plain a) (Plain b))
      (λ x y e k. ap contents.word_answer (of_words bit_and Int (conjunction-words Int) x y e k))
  and_matches U32 a b =
      two_numbers UnsignedInt a b (λ t x y. word_answer (c.conjunction t x y)) (λ a b. operate_answer m o.And (Plain a) (Plain b))
      (λ x y e k. ap contents.word_answer (of_words bit_and UnsignedInt (conjunction-words UnsignedInt) x y e k))
  and_matches S64 a b =
      two_numbers Long a b (λ t x y. word_answer (c.conjunction t x y)) (λ a b. operate_answer m o.And (Plain a) (Plain b))
      (λ x y e k. ap contents.word_answer (of_words bit_and Long (conjunction-words Long) x y e k))
  and_matches U64 a b =
      two_numbers UnsignedLong a b (λ t x y. word_answer (c.conjunction t x y)) (λ a b. operate_answer m o.And (Plain a) (Plain b))
      (λ x y e k. ap contents.word_answer (of_words bit_and UnsignedLong (conjunction-words UnsignedLong) x y e k))
  and_matches P64 a b = tt

  pub or_matches : (ty : VmType) (a b : Value) → Matches (binary_answer m Or ty a b) (operate_answer m o.Bis (Plain a) (Plain b))
  or_matches S32 a b =
      two_numbers Int a b (λ t x y. word_answer (c.disjunction t x y)) (λ a b. operate_answer m o.Bis (Plain a) (Plain b))
      (λ x y e k. ap contents.word_answer (of_words bit_or Int (disjunction-words Int) x y e k))
  or_matches U32 a b =
      two_numbers UnsignedInt a b (λ t x y. word_answer (c.disjunction t x y)) (λ a b. operate_answer m o.Bis (Plain a) (Plain b))
      (λ x y e k. ap contents.word_answer (of_words bit_or UnsignedInt (disjunction-words UnsignedInt) x y e k))
  or_matches S64 a b =
      two_numbers Long a b (λ t x y. word_answer (c.disjunction t x y)) (λ a b. operate_answer m o.Bis (Plain a) (Plain b))
      (λ x y e k. ap contents.word_answer (of_words bit_or Long (disjunction-words Long) x y e k))
  or_matches U64 a b =
      two_numbers UnsignedLong a b (λ t x y. word_answer (c.disjunction t x y)) (λ a b. operate_answer m o.Bis (Plain a) (Plain b))
      (λ x y e k. ap contents.word_answer (of_words bit_or UnsignedLong (disjunction-words UnsignedLong) x y e k))
  or_matches P64 a b = tt

  pub xor_matches : (ty : VmType) (a b : Value) → Matches (binary_answer m ExclusiveOr ty a b) (operate_answer m o.Xor (Plain a) (Plain b))
  xor_matches S32 a b =
      two_numbers Int a b (λ t x y. word_answer (c.exclusive_disjunction t x y)) (λ a b. operate_answer m o.Xor (Plain a) (Plain b))
      (λ x y e k. ap contents.word_answer (of_words bit_xor Int (exclusive-words Int) x y e k))
  xor_matches U32 a b =
      two_numbers UnsignedInt a b (λ t x y. word_answer (c.exclusive_disjunction t x y)) (λ a b. operate_answer m o.Xor (Plain a) (Plain b))
      (λ x y e k. ap contents.word_answer (of_words bit_xor UnsignedInt (exclusive-words UnsignedInt) x y e k))
  xor_matches S64 a b =
      two_numbers Long a b (λ t x y. word_answer (c.exclusive_disjunction t x y)) (λ a b. operate_answer m o.Xor (Plain a) (Plain b))
      (λ x y e k. ap contents.word_answer (of_words bit_xor Long (exclusive-words Long) x y e k))
  xor_matches U64 a b =
      two_numbers UnsignedLong a b (λ t x y. word_answer (c.exclusive_disjunction t x y)) (λ a b. operate_answer m o.Xor (Plain a) (Plain b))
      (λ x y e k. ap contents.word_answer (of_words bit_xor UnsignedLong (exclusive-words UnsignedLong) x y e k))
  xor_matches P64 a b = tt

  -- ---- differences, negations, complements, copies

  -- two pointers have a distance, which is taken modulo 2^64
  distance_matches : (r : Option ℤ) → Matches (distance_answer r) (content_answer (distance_word r))
  distance_matches None = tt
  distance_matches (Some z) = ap contents.word_answer (sym (long_residue z))

  difference_pointer : (a b : Value) → Matches (binary_answer m Subtract P64 a b) (operate_answer m o.Subq (Plain a) (Plain b))
  difference_pointer (Address p) (Address q) = distance_matches (pointer_minus m (Address p) (Address q))
  difference_pointer (Address p) (Word n) = tt
  difference_pointer (Address p) Unset = tt
  difference_pointer (Word k) b = tt
  difference_pointer Unset b = tt

  pub difference_matches : (ty : VmType) (a b : Value) →
      Matches (binary_answer m Subtract ty a b) (operate_answer m (difference_op ty) (Plain a) (Plain b))
  difference_matches S32 a b =
      two_numbers Int a b (λ t x y. outcome_answer (c.difference t x y)) (λ a b. operate_answer m o.SublV (Plain a) (Plain b))
      (λ x y e k. checked_int (value Int x -ℤ value Int y))
  difference_matches U32 a b =
      two_numbers UnsignedInt a b (λ t x y. outcome_answer (c.difference t x y)) (λ a b. operate_answer m o.Subl (Plain a) (Plain b))
      (λ x y e k. ap contents.word_answer (sym (word-difference UnsignedInt x y (small UnsignedInt y k))))
  difference_matches S64 a b =
      two_numbers Long a b (λ t x y. outcome_answer (c.difference t x y)) (λ a b. operate_answer m o.SubqV (Plain a) (Plain b))
      (λ x y e k. checked_long (value Long x -ℤ value Long y))
  difference_matches U64 a b =
      two_numbers UnsignedLong a b (λ t x y. outcome_answer (c.difference t x y)) (λ a b. operate_answer m o.Subq (Plain a) (Plain b))
      (λ x y e k. ap contents.word_answer (sym (word-difference UnsignedLong x y (small UnsignedLong y k))))
  difference_matches P64 a b = difference_pointer a b

  pub negate_matches : (ty : VmType) (a : Value) → Matches (unary_answer Negate ty a) (operate_answer m (difference_op ty) (word_content 0) (Plain a))
  negate_matches S32 a =
      one_number Int a (λ t x. outcome_answer (c.negation t x)) (λ a. operate_answer m o.SublV (word_content 0) (Plain a))
      (λ x e. subst (λ z. Matches (outcome_answer (c.word_or_overflow Int z)) (effect_answer (checked_effect w32 (pos 0 -ℤ value Int x)))) (from_zero (value Int x)) (checked_int (pos 0 -ℤ value Int x)))
  negate_matches U32 a =
      one_number UnsignedInt a (λ t x. outcome_answer (c.negation t x)) (λ a. operate_answer m o.Subl (word_content 0) (Plain a))
      (λ x e. ap contents.word_answer (ap (λ k. extension UnsignedInt k) (nothing_before (2 ^ 64 - x)) ∙ sym (word-negation UnsignedInt x (small UnsignedInt x e))))
  negate_matches S64 a =
      one_number Long a (λ t x. outcome_answer (c.negation t x)) (λ a. operate_answer m o.SubqV (word_content 0) (Plain a))
      (λ x e. subst (λ z. Matches (outcome_answer (c.word_or_overflow Long z)) (effect_answer (checked_effect w64 (pos 0 -ℤ value Long x)))) (from_zero (value Long x)) (checked_long (pos 0 -ℤ value Long x)))
  negate_matches U64 a =
      one_number UnsignedLong a (λ t x. outcome_answer (c.negation t x)) (λ a. operate_answer m o.Subq (word_content 0) (Plain a))
      (λ x e. ap contents.word_answer (ap (λ k. extension UnsignedLong k) (nothing_before (2 ^ 64 - x)) ∙ sym (word-negation UnsignedLong x (small UnsignedLong x e))))
  negate_matches P64 a = tt

  pub complement_matches : (ty : VmType) (a : Value) → Matches (unary_answer Complement ty a) (operate_answer m o.Ornot (word_content 0) (Plain a))
  complement_matches S32 a =
      one_number Int a (λ t x. word_answer (c.complement t x)) (λ a. operate_answer m o.Ornot (word_content 0) (Plain a))
      (λ x e. ap contents.word_answer (sym (complement_long x e)))
  complement_matches U32 a =
      one_number UnsignedInt a (λ t x. word_answer (c.complement t x)) (λ a. operate_answer m o.Ornot (word_content 0) (Plain a))
      (λ x e. ap contents.word_answer (sym (complement_long x e)))
  complement_matches S64 a =
      one_number Long a (λ t x. word_answer (c.complement t x)) (λ a. operate_answer m o.Ornot (word_content 0) (Plain a))
      (λ x e. ap contents.word_answer (complement_quad x))
  complement_matches U64 a =
      one_number UnsignedLong a (λ t x. word_answer (c.complement t x)) (λ a. operate_answer m o.Ornot (word_content 0) (Plain a))
      (λ x e. ap contents.word_answer (complement_quad x))
  complement_matches P64 a = tt

  move_number : (t : IntegerType) (a : Value) → Matches (on_number (Some t) a (λ t x. word_answer x)) (operate_answer m o.Bis (word_content 0) (Plain a))
  move_number t a = one_number t a (λ t x. word_answer x) (λ a. operate_answer m o.Bis (word_content 0) (Plain a)) (λ x e. refl)

  pub move_matches : (ty : VmType) (a : Value) → Matches (unary_answer Move ty a) (operate_answer m o.Bis (word_content 0) (Plain a))
  move_matches S32 a = move_number Int a
  move_matches U32 a = move_number UnsignedInt a
  move_matches S64 a = move_number Long a
  move_matches U64 a = move_number UnsignedLong a
  move_matches P64 (Word n) = refl
  move_matches P64 (Address p) = refl
  move_matches P64 Unset = tt
