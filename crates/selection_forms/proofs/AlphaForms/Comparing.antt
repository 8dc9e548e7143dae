-- What the comparisons of the machine make of words and pointers is what the operators of C make of them.
use Rattle.std.proofs.Common.{◌≡◌, ℕ, zero, suc, ◌%◌, ◌^◌, ltb, Bool, true, false, Option, Some, None, refl, sym, ap, ◌∙◌, arith}
use Rattle.std.specs.Prelude.{◌==◌, not, if◌then◌else◌, option_map, int_lt, int_le, nat_lt, nat_le}
use Rattle.std.specs.Int.{w64}
use Rattle.std.proofs.lemmas.Bool.Decides.{nat_tests}
use Rattle.mem_model.specs.declared.value.Value.{Value}
use Rattle.mem_model.specs.declared.value.Value.TheVariants.{Word, Address, Unset}
use Rattle.mem_model.specs.Memory.{Memory}
use Rattle.mem_model.specs.Pointers.{pointer_eq, pointer_lt, pointer_le}
use Rattle.alpha_isa.specs.Arithmetic.{signed_value}
use Rattle.bk_arithmetic.specs.declared.integer_type.IntegerType.{IntegerType}
use Rattle.bk_arithmetic.specs.declared.integer_type.IntegerType.TheVariants.{Char, UnsignedChar, Short, UnsignedShort, Int, UnsignedInt, Long, UnsignedLong}
use Rattle.bk_arithmetic.specs.IntegerTypes.{is_signed}
use Rattle.bk_arithmetic.specs.Words.{value, extension, is_word}
use Rattle.bk_arithmetic.specs.Operations as c
use Rattle.bk_arithmetic.proofs.Comparisons.{equal-words, value-long, less-unsigned}
use Rattle.suifvm_ir.specs.declared.types.VmType.{VmType}
use Rattle.suifvm_ir.specs.declared.types.VmType.TheVariants.{S32, U32, S64, U64, P64}
use Rattle.suifvm_ir.specs.declared.insn.CompareOp.TheVariants.{Equal, NotEqual, Less, LessOrEqual}
use Rattle.suifvm_meaning.specs.declared.answer.Answer.TheVariants as v
use Rattle.suifvm_meaning.specs.Operations.{on_numbers, test_answer, comparison_answer, compare_answer}
use Rattle.temp_ir.specs.declared.operation.Operation.TheVariants as o
use Rattle.alloc_model.specs.Contents as contents
use Rattle.alloc_model.specs.Contents.{Content, Plain, word_content, ContentAnswer, Gives, content_answer, test_word, operate_answer}
use Rattle.selection_forms.specs.alpha_forms.Operations.{is_unsigned, less_op, less_or_equal_op}
use Rattle.selection_forms.proofs.AlphaForms.Prepares.{Matches}
use Rattle.selection_forms.proofs.AlphaForms.Numbers.{two_numbers}

-- the word of a test
bit : Bool → ℕ
bit b = if b then 1 else 0

bit_word : (a b : Bool) → a ≡ b → contents.word_answer (if a then 1 else 0) ≡ Gives (Plain (Word (c.truth b)))
bit_word a b e = ap (λ t. contents.word_answer (if t then 1 else 0)) e

-- ---- numbers

equal_bits : (t : IntegerType) (x y : ℕ) → extension t x ≡ x → extension t y ≡ y → (x == y) ≡ c.is_equal t x y
equal_bits t x y e k =
    sym (equal-words t x y ∙ ap (λ n. n == extension t y) e ∙ ap (λ n. x == n) k)

pub signed_as : (t : IntegerType) (x : ℕ) → is_signed t ≡ true → extension t x ≡ x → signed_value w64 x ≡ value t x
signed_as t x s e = ap (λ n. value Long n) (sym e) ∙ value-long t x s

less_signed : (t : IntegerType) (x y : ℕ) → is_signed t ≡ true → extension t x ≡ x → extension t y ≡ y →
    int_lt (signed_value w64 x) (signed_value w64 y) ≡ c.is_less t x y
less_signed t x y s e k = ap (λ n. int_lt n (signed_value w64 y)) (signed_as t x s e) ∙ ap (λ n. int_lt (value t x) n) (signed_as t y s k)

at_most_signed : (t : IntegerType) (x y : ℕ) → is_signed t ≡ true → extension t x ≡ x → extension t y ≡ y →
    int_le (signed_value w64 x) (signed_value w64 y) ≡ c.is_less_or_equal t x y
at_most_signed t x y s e k = ap (λ n. int_le n (signed_value w64 y)) (signed_as t x s e) ∙ ap (λ n. int_le (value t x) n) (signed_as t y s k)

less_words : (t : IntegerType) (x y : ℕ) → is_signed t ≡ false → extension t x ≡ x → extension t y ≡ y → nat_lt x y ≡ c.is_less t x y
less_words t x y s e k = sym (less-unsigned t x y s ∙ ap (λ n. ltb n (extension t y)) e ∙ ap (λ n. ltb x n) k)

le_not : (m n : ℕ) → nat_le m n ≡ not (nat_lt n m)
le_not m n = grind (arith, nat_tests)

value_le : (t : IntegerType) (x y : ℕ) → is_signed t ≡ false → c.is_less_or_equal t x y ≡ not (c.is_less t y x)
value_le Char x y s = absurd cc
value_le UnsignedChar x y s = le_not (x % 2 ^ 8) (y % 2 ^ 8)
value_le Short x y s = absurd cc
value_le UnsignedShort x y s = le_not (x % 2 ^ 16) (y % 2 ^ 16)
value_le Int x y s = absurd cc
value_le UnsignedInt x y s = le_not (x % 2 ^ 32) (y % 2 ^ 32)
value_le Long x y s = absurd cc
value_le UnsignedLong x y s = le_not (x % 2 ^ 64) (y % 2 ^ 64)

at_most_words : (t : IntegerType) (x y : ℕ) → is_signed t ≡ false → extension t x ≡ x → extension t y ≡ y →
    nat_le x y ≡ c.is_less_or_equal t x y
at_most_words t x y s e k = le_not x y ∙ ap not (less_words t y x s k e) ∙ sym (value_le t x y s)

-- ---- pointers

test_matches : (t : Option Bool) → Matches (test_answer t) (content_answer (test_word t))
test_matches (Some b) = refl
test_matches None = tt

module _ (m : Memory) where
  equal_pointers : (a b : Value) → Matches (test_answer (pointer_eq m a b)) (operate_answer m o.Cmpeq (Plain a) (Plain b))
  equal_pointers (Address p) (Address q) = test_matches (pointer_eq m (Address p) (Address q))
  equal_pointers (Address p) (Word zero) = test_matches (pointer_eq m (Address p) (Word zero))
  equal_pointers (Address p) (Word (suc n)) = tt
  equal_pointers (Address p) Unset = tt
  equal_pointers (Word zero) (Address q) = test_matches (pointer_eq m (Word zero) (Address q))
  equal_pointers (Word zero) (Word zero) = refl
  equal_pointers (Word zero) (Word (suc n)) = tt
  equal_pointers (Word zero) Unset = tt
  equal_pointers (Word (suc n)) (Address q) = tt
  equal_pointers (Word (suc n)) (Word k) = tt
  equal_pointers (Word (suc n)) Unset = tt
  equal_pointers Unset (Address q) = tt
  equal_pointers Unset (Word k) = tt
  equal_pointers Unset Unset = tt

  less_pointers : (a b : Value) → Matches (test_answer (pointer_lt m a b)) (operate_answer m o.Cmpult (Plain a) (Plain b))
  less_pointers (Address p) (Address q) = test_matches (pointer_lt m (Address p) (Address q))
  less_pointers (Address p) (Word n) = tt
  less_pointers (Address p) Unset = tt
  less_pointers (Word n) b = tt
  less_pointers Unset b = tt

  at_most_pointers : (a b : Value) → Matches (test_answer (pointer_le m a b)) (operate_answer m o.Cmpule (Plain a) (Plain b))
  at_most_pointers (Address p) (Address q) = test_matches (pointer_le m (Address p) (Address q))
  at_most_pointers (Address p) (Word n) = tt
  at_most_pointers (Address p) Unset = tt
  at_most_pointers (Word n) b = tt
  at_most_pointers Unset b = tt

  -- ---- each comparison of one instruction

  equal_numbers : (t : IntegerType) (a b : Value) → Matches (on_numbers (Some t) a b (comparison_answer Equal)) (operate_answer m o.Cmpeq (Plain a) (Plain b))
  equal_numbers t a b =
      two_numbers t a b (comparison_answer Equal) (λ a b. operate_answer m o.Cmpeq (Plain a) (Plain b)) (λ x y e k. bit_word (x == y) (c.is_equal t x y) (equal_bits t x y e k))

  pub equal_matches : (ty : VmType) (a b : Value) → Matches (compare_answer m Equal ty a b) (operate_answer m o.Cmpeq (Plain a) (Plain b))
  equal_matches S32 a b = equal_numbers Int a b
  equal_matches U32 a b = equal_numbers UnsignedInt a b
  equal_matches S64 a b = equal_numbers Long a b
  equal_matches U64 a b = equal_numbers UnsignedLong a b
  equal_matches P64 a b = equal_pointers a b

  less_signed_numbers : (t : IntegerType) → is_signed t ≡ true → (a b : Value) → Matches (on_numbers (Some t) a b (comparison_answer Less)) (operate_answer m o.Cmplt (Plain a) (Plain b))
  less_signed_numbers t s a b =
      two_numbers t a b (comparison_answer Less) (λ a b. operate_answer m o.Cmplt (Plain a) (Plain b)) (λ x y e k. bit_word (int_lt (signed_value w64 x) (signed_value w64 y)) (c.is_less t x y) (less_signed t x y s e k))

  less_unsigned_numbers : (t : IntegerType) → is_signed t ≡ false → (a b : Value) → Matches (on_numbers (Some t) a b (comparison_answer Less)) (operate_answer m o.Cmpult (Plain a) (Plain b))
  less_unsigned_numbers t s a b =
      two_numbers t a b (comparison_answer Less) (λ a b. operate_answer m o.Cmpult (Plain a) (Plain b)) (λ x y e k. bit_word (nat_lt x y) (c.is_less t x y) (less_words t x y s e k))

  pub less_matches : (ty : VmType) (a b : Value) → Matches (compare_answer m Less ty a b) (operate_answer m (less_op (is_unsigned ty)) (Plain a) (Plain b))
  less_matches S32 a b = less_signed_numbers Int refl a b
  less_matches U32 a b = less_unsigned_numbers UnsignedInt refl a b
  less_matches S64 a b = less_signed_numbers Long refl a b
  less_matches U64 a b = less_unsigned_numbers UnsignedLong refl a b
  less_matches P64 a b = less_pointers a b

  at_most_signed_numbers : (t : IntegerType) → is_signed t ≡ true → (a b : Value) → Matches (on_numbers (Some t) a b (comparison_answer LessOrEqual)) (operate_answer m o.Cmple (Plain a) (Plain b))
  at_most_signed_numbers t s a b =
      two_numbers t a b (comparison_answer LessOrEqual) (λ a b. operate_answer m o.Cmple (Plain a) (Plain b)) (λ x y e k. bit_word (int_le (signed_value w64 x) (signed_value w64 y)) (c.is_less_or_equal t x y) (at_most_signed t x y s e k))

  at_most_unsigned_numbers : (t : IntegerType) → is_signed t ≡ false → (a b : Value) → Matches (on_numbers (Some t) a b (comparison_answer LessOrEqual)) (operate_answer m o.Cmpule (Plain a) (Plain b))
  at_most_unsigned_numbers t s a b =
      two_numbers t a b (comparison_answer LessOrEqual) (λ a b. operate_answer m o.Cmpule (Plain a) (Plain b)) (λ x y e k. bit_word (nat_le x y) (c.is_less_or_equal t x y) (at_most_words t x y s e k))

  pub at_most_matches : (ty : VmType) (a b : Value) → Matches (compare_answer m LessOrEqual ty a b) (operate_answer m (less_or_equal_op (is_unsigned ty)) (Plain a) (Plain b))
  at_most_matches S32 a b = at_most_signed_numbers Int refl a b
  at_most_matches U32 a b = at_most_unsigned_numbers UnsignedInt refl a b
  at_most_matches S64 a b = at_most_signed_numbers Long refl a b
  at_most_matches U64 a b = at_most_unsigned_numbers UnsignedLong refl a b
  at_most_matches P64 a b = at_most_pointers a b

  -- ---- `!=` is what `==` is not

  abbrev equal_test : Option IntegerType → (a b : Value) → Option Bool
  equal_test (Some t) (Word x) (Word y) = if is_word t x then (if is_word t y then Some (c.is_equal t x y) else None) else None
  equal_test _ _ _ = None

  equal_as_test : (t : IntegerType) (a b : Value) → on_numbers (Some t) a b (comparison_answer Equal) ≡ test_answer (equal_test (Some t) a b)
  equal_as_test t (Word x) (Word y) = by_words (is_word t x) (is_word t y)
    where
      by_words : (p q : Bool) → (if p then (if q then comparison_answer Equal t x y else v.Fails) else v.Fails) ≡
          test_answer (if p then (if q then Some (c.is_equal t x y) else None) else None)
      by_words true true = refl
      by_words true false = refl
      by_words false q = refl
  equal_as_test t (Word x) (Address q) = by_word (is_word t x)
    where
      by_word : (p : Bool) → (if p then v.Fails else v.Fails) ≡ v.Fails
      by_word true = refl
      by_word false = refl
  equal_as_test t (Word x) Unset = by_word (is_word t x)
    where
      by_word : (p : Bool) → (if p then v.Fails else v.Fails) ≡ v.Fails
      by_word true = refl
      by_word false = refl
  equal_as_test t (Address p) b = refl
  equal_as_test t Unset b = refl

  unlike_as_test : (t : IntegerType) (a b : Value) → on_numbers (Some t) a b (comparison_answer NotEqual) ≡ test_answer (option_map not (equal_test (Some t) a b))
  unlike_as_test t (Word x) (Word y) = by_words (is_word t x) (is_word t y)
    where
      by_words : (p q : Bool) → (if p then (if q then comparison_answer NotEqual t x y else v.Fails) else v.Fails) ≡
          test_answer (option_map not (if p then (if q then Some (c.is_equal t x y) else None) else None))
      by_words true true = refl
      by_words true false = refl
      by_words false q = refl
  unlike_as_test t (Word x) (Address q) = by_word (is_word t x)
    where
      by_word : (p : Bool) → (if p then v.Fails else v.Fails) ≡ v.Fails
      by_word true = refl
      by_word false = refl
  unlike_as_test t (Word x) Unset = by_word (is_word t x)
    where
      by_word : (p : Bool) → (if p then v.Fails else v.Fails) ≡ v.Fails
      by_word true = refl
      by_word false = refl
  unlike_as_test t (Address p) b = refl
  unlike_as_test t Unset b = refl

  -- the test of `==`, by which `==` and `!=` answer
  pub record Test (ty : VmType) (a b : Value) : Type 0 where
    pub test : Option Bool
    pub equal : compare_answer m Equal ty a b ≡ test_answer test
    pub unlike : compare_answer m NotEqual ty a b ≡ test_answer (option_map not test)

  number_test : (t : IntegerType) (a b : Value) → (test : Option Bool) × (on_numbers (Some t) a b (comparison_answer Equal) ≡ test_answer test)
      × (on_numbers (Some t) a b (comparison_answer NotEqual) ≡ test_answer (option_map not test))
  number_test t a b = (equal_test (Some t) a b, equal_as_test t a b, unlike_as_test t a b)

  pub test_of : (ty : VmType) (a b : Value) → Test ty a b
  test_of S32 a b = let h = number_test Int a b in record { test = h.0; equal = h.1; unlike = h.2 }
  test_of U32 a b = let h = number_test UnsignedInt a b in record { test = h.0; equal = h.1; unlike = h.2 }
  test_of S64 a b = let h = number_test Long a b in record { test = h.0; equal = h.1; unlike = h.2 }
  test_of U64 a b = let h = number_test UnsignedLong a b in record { test = h.0; equal = h.1; unlike = h.2 }
  test_of P64 a b = record { test = pointer_eq m a b; equal = refl; unlike = refl }
