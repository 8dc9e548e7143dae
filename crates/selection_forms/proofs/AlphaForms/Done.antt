-- The code of operations comes to what they answer.
use Rattle.std.proofs.Common.{◌≡◌, ℕ, ◌^◌, ◌<◌, [], ◌∷◌, Bool, true, false, Option, Some, None, refl, sym, ap, ◌∙◌, subst, arith}
use Rattle.std.specs.Prelude.{◌==◌, not, if◌then◌else◌, option_map}
use Rattle.mem_model.specs.declared.value.Value.{Value}
use Rattle.mem_model.specs.declared.value.Value.TheVariants.{Word, Address, Unset}
use Rattle.mem_model.specs.World.{Outer}
use Rattle.alpha_isa.specs.Arithmetic as isa
use Rattle.bk_arithmetic.specs.declared.integer_type.IntegerType.TheVariants.{Char, UnsignedChar, Short, UnsignedShort, Int, UnsignedInt, Long, UnsignedLong}
use Rattle.bk_arithmetic.specs.Operations as c
use Rattle.bk_arithmetic.proofs.Conversions.{conversion-narrower}
use Rattle.suifvm_ir.specs.declared.types.VmType.{VmType}
use Rattle.suifvm_ir.specs.declared.types.VmType.TheVariants.{S32, U32, S64, U64, P64}
use Rattle.suifvm_ir.specs.declared.types.MemoryType.{MemoryType}
use Rattle.suifvm_ir.specs.declared.types.MemoryType.TheVariants as m
use Rattle.suifvm_ir.specs.declared.insn.VmUnaryOp.TheVariants.{Move, Negate, Complement}
use Rattle.suifvm_ir.specs.declared.insn.VmBinaryOp.TheVariants.{Add, Subtract, Multiply, And, Or, ExclusiveOr}
use Rattle.suifvm_ir.specs.declared.insn.CompareOp.TheVariants.{Equal, NotEqual, Less, LessOrEqual}
use Rattle.suifvm_meaning.specs.declared.answer.Answer as vm
use Rattle.suifvm_meaning.specs.declared.answer.Answer.TheVariants as v
use Rattle.suifvm_meaning.specs.Operations.{unary_answer, binary_answer, test_answer, compare_answer, convert_answer}
use Rattle.temp_ir.specs.declared.operation.Operation.{Operation}
use Rattle.temp_ir.specs.declared.operation.Operation.TheVariants as code
use Rattle.temp_ir.specs.declared.operation.ExtendOp.{ExtendOp}
use Rattle.temp_ir.specs.declared.operation.ExtendOp.TheVariants as e
use Rattle.temp_ir.specs.declared.insn.SecondOperand.TheVariants as operand
use Rattle.temp_ir.specs.declared.insn.TempInsn.TheVariants.{Extend}
use Rattle.alloc_model.specs.Contents as contents
use Rattle.alloc_model.specs.Contents.{Content, Plain, word_content, ContentAnswer, Gives, effect_answer, operate_answer, extend_answer}
use Rattle.alloc_model.specs.Effect.{Temp, writes}
use Rattle.alloc_model.specs.Temporaries.{Temps}
use Rattle.selection_forms.specs.alpha_forms.Straight.{runs}
use Rattle.selection_forms.specs.alpha_forms.Registers.{CodeAnswers}
use Rattle.selection_forms.specs.alpha_forms.Operations.{on_two, on_literal, on_zero, sum_op, product_op, difference_op, is_unsigned, less_op, less_or_equal_op, convert_item}
use Rattle.selection_forms.specs.alpha_forms.Laws.{UnaryIsDone, BinaryIsDone, CompareIsDone, ConversionsAreDone}
use Rattle.selection_forms.proofs.AlphaForms.Prepares.{Matches, nothing_yet, prepare, finish}
use Rattle.selection_forms.proofs.AlphaForms.Numbers.{sum_matches, product_matches, and_matches, or_matches, xor_matches, difference_matches, negate_matches, complement_matches, move_matches}
use Rattle.selection_forms.proofs.AlphaForms.Comparing.{equal_matches, less_matches, at_most_matches, test_of}
use Rattle.selection_forms.proofs.AlphaForms.Converting.{IsInt, IsUnsignedInt, IsLong, IsUnsignedLong, from_char, from_short_, from_unsigned_char, from_unsigned_short, from_int, from_unsigned_narrow, from_unsigned_same, from_unsigned_long, from_unsigned_unsigned_long, from_wide, wide_same}

module _ (widest own : ℕ) (s : Temps) (o : Outer) (d : ℕ) where
  -- code of one instruction
  pub two_comes : (op : Operation) (a b : ℕ) (x y : Value) (w : vm.Answer) → s (Temp a) ≡ Plain x → s (Temp b) ≡ Plain y →
      Matches w (operate_answer o.memory op (Plain x) (Plain y)) → CodeAnswers s o d w (runs widest (on_two op d a b ∷ []) own s o)
  two_comes op a b x y w ha hb m =
      finish widest own s o [] (s (Temp 0)) (nothing_yet widest own s o) (on_two op d a b) d (operate_answer o.memory op (Plain x) (Plain y)) w
      (record { turn = refl; call = refl; written = refl })
      (ap (λ c. writes (operate_answer o.memory op c (s (Temp b))) o) ha ∙ ap (λ c. writes (operate_answer o.memory op (Plain x) c) o) hb) m

  zero_comes : (op : Operation) (a : ℕ) (x : Value) (w : vm.Answer) → s (Temp a) ≡ Plain x →
      Matches w (operate_answer o.memory op (word_content 0) (Plain x)) → CodeAnswers s o d w (runs widest (on_zero op d a ∷ []) own s o)
  zero_comes op a x w ha m =
      finish widest own s o [] (s (Temp 0)) (nothing_yet widest own s o) (on_zero op d a) d (operate_answer o.memory op (word_content 0) (Plain x)) w
      (record { turn = refl; call = refl; written = refl }) (ap (λ c. writes (operate_answer o.memory op (word_content 0) c) o) ha) m

  -- a test and its contrary
  contrary : (b : Bool) → effect_answer (isa.truth_result ((if b then 1 else 0) == 0)) ≡ Gives (Plain (Word (c.truth (not b))))
  contrary true = refl
  contrary false = refl

  not_comes : (a b : ℕ) (x y : Value) → s (Temp a) ≡ Plain x → s (Temp b) ≡ Plain y → (t : Option Bool) →
      Matches (test_answer t) (operate_answer o.memory code.Cmpeq (Plain x) (Plain y)) →
      CodeAnswers s o d (test_answer (option_map not t)) (runs widest (on_two code.Cmpeq 0 a b ∷ on_literal code.Cmpeq d 0 0 ∷ []) own s o)
  not_comes a b x y ha hb None m = tt
  not_comes a b x y ha hb (Some t) m =
      let k = prepare widest own s o [] (s (Temp 0)) (nothing_yet widest own s o) (on_two code.Cmpeq 0 a b) (word_content (c.truth t)) (record { turn = refl; call = refl; written = refl })
      (ap (λ c. writes (operate_answer o.memory code.Cmpeq c (s (Temp b))) o) ha ∙ ap (λ c. writes (operate_answer o.memory code.Cmpeq (Plain x) c) o) hb ∙ ap (λ e. writes e o) m) in
      finish widest own s o (on_two code.Cmpeq 0 a b ∷ []) (word_content (c.truth t)) k (on_literal code.Cmpeq d 0 0) d (operate_answer o.memory code.Cmpeq (k.after (Temp 0)) (word_content 0))
      (test_answer (Some (not t))) (record { turn = refl; call = refl; written = refl }) refl
      (ap (λ c. operate_answer o.memory code.Cmpeq c (word_content 0)) k.holds ∙ contrary t)

  -- code of one instruction on a word
  literal_comes : (op : Operation) (a n k r : ℕ) → s (Temp a) ≡ word_content n → operate_answer o.memory op (word_content n) (word_content k) ≡ contents.word_answer r →
      CodeAnswers s o d (v.Gives (Word r)) (runs widest (on_literal op d a k ∷ []) own s o)
  literal_comes op a n k r ha e =
      finish widest own s o [] (s (Temp 0)) (nothing_yet widest own s o) (on_literal op d a k) d (operate_answer o.memory op (s (Temp a)) (word_content k)) (v.Gives (Word r))
      (record { turn = refl; call = refl; written = refl }) refl (ap (λ c. operate_answer o.memory op c (word_content k)) ha ∙ e)

  extend_comes : (op : ExtendOp) (a n r : ℕ) → s (Temp a) ≡ word_content n → extend_answer op (word_content n) ≡ contents.word_answer r →
      CodeAnswers s o d (v.Gives (Word r)) (runs widest (Extend op d (operand.Temp a) ∷ []) own s o)
  extend_comes op a n r ha e =
      finish widest own s o [] (s (Temp 0)) (nothing_yet widest own s o) (Extend op d (operand.Temp a)) d (extend_answer op (s (Temp a))) (v.Gives (Word r))
      (record { turn = refl; call = refl; written = refl }) refl (ap (extend_answer op) ha ∙ e)

  -- a conversion
  convert_comes : (from : MemoryType) (to : VmType) (a n : ℕ) → s (Temp a) ≡ word_content n → n < 2 ^ 64 →
      CodeAnswers s o d (convert_answer from to (Word n)) (runs widest (convert_item from to d a ∷ []) own s o)
  convert_comes m.S8 S32 a n ha small = extend_comes e.Sextb a n (c.conversion Char Int n) ha (ap contents.word_answer (from_char Int n IsInt))
  convert_comes m.S8 U32 a n ha small = extend_comes e.Sextb a n (c.conversion Char UnsignedInt n) ha (ap contents.word_answer (from_char UnsignedInt n IsUnsignedInt))
  convert_comes m.S8 S64 a n ha small = extend_comes e.Sextb a n (c.conversion Char Long n) ha (ap contents.word_answer (from_char Long n IsLong))
  convert_comes m.S8 U64 a n ha small = extend_comes e.Sextb a n (c.conversion Char UnsignedLong n) ha (ap contents.word_answer (from_char UnsignedLong n IsUnsignedLong))
  convert_comes m.S8 P64 a n ha small = tt
  convert_comes m.U8 S32 a n ha small = literal_comes code.Zapnot a n 1 (c.conversion UnsignedChar Int n) ha (ap contents.word_answer (from_unsigned_char Int n IsInt))
  convert_comes m.U8 U32 a n ha small = literal_comes code.Zapnot a n 1 (c.conversion UnsignedChar UnsignedInt n) ha (ap contents.word_answer (from_unsigned_char UnsignedInt n IsUnsignedInt))
  convert_comes m.U8 S64 a n ha small = literal_comes code.Zapnot a n 1 (c.conversion UnsignedChar Long n) ha (ap contents.word_answer (from_unsigned_char Long n IsLong))
  convert_comes m.U8 U64 a n ha small = literal_comes code.Zapnot a n 1 (c.conversion UnsignedChar UnsignedLong n) ha (ap contents.word_answer (from_unsigned_char UnsignedLong n IsUnsignedLong))
  convert_comes m.U8 P64 a n ha small = tt
  convert_comes m.S16 S32 a n ha small = extend_comes e.Sextw a n (c.conversion Short Int n) ha (ap contents.word_answer (from_short_ Int n IsInt))
  convert_comes m.S16 U32 a n ha small = extend_comes e.Sextw a n (c.conversion Short UnsignedInt n) ha (ap contents.word_answer (from_short_ UnsignedInt n IsUnsignedInt))
  convert_comes m.S16 S64 a n ha small = extend_comes e.Sextw a n (c.conversion Short Long n) ha (ap contents.word_answer (from_short_ Long n IsLong))
  convert_comes m.S16 U64 a n ha small = extend_comes e.Sextw a n (c.conversion Short UnsignedLong n) ha (ap contents.word_answer (from_short_ UnsignedLong n IsUnsignedLong))
  convert_comes m.S16 P64 a n ha small = tt
  convert_comes m.U16 S32 a n ha small = literal_comes code.Zapnot a n 3 (c.conversion UnsignedShort Int n) ha (ap contents.word_answer (from_unsigned_short Int n IsInt))
  convert_comes m.U16 U32 a n ha small = literal_comes code.Zapnot a n 3 (c.conversion UnsignedShort UnsignedInt n) ha (ap contents.word_answer (from_unsigned_short UnsignedInt n IsUnsignedInt))
  convert_comes m.U16 S64 a n ha small = literal_comes code.Zapnot a n 3 (c.conversion UnsignedShort Long n) ha (ap contents.word_answer (from_unsigned_short Long n IsLong))
  convert_comes m.U16 U64 a n ha small = literal_comes code.Zapnot a n 3 (c.conversion UnsignedShort UnsignedLong n) ha (ap contents.word_answer (from_unsigned_short UnsignedLong n IsUnsignedLong))
  convert_comes m.U16 P64 a n ha small = tt
  convert_comes m.S32 S32 a n ha small = literal_comes code.Addl a n 0 (c.conversion Int Int n) ha (ap contents.word_answer (from_int Int n IsInt))
  convert_comes m.S32 U32 a n ha small = literal_comes code.Addl a n 0 (c.conversion Int UnsignedInt n) ha (ap contents.word_answer (from_int UnsignedInt n IsUnsignedInt))
  convert_comes m.S32 S64 a n ha small = literal_comes code.Addl a n 0 (c.conversion Int Long n) ha (ap contents.word_answer (from_int Long n IsLong))
  convert_comes m.S32 U64 a n ha small = literal_comes code.Addl a n 0 (c.conversion Int UnsignedLong n) ha (ap contents.word_answer (from_int UnsignedLong n IsUnsignedLong))
  convert_comes m.S32 P64 a n ha small = tt
  convert_comes m.U32 S32 a n ha small = literal_comes code.Addl a n 0 (c.conversion UnsignedInt Int n) ha (ap contents.word_answer (from_unsigned_narrow n))
  convert_comes m.U32 U32 a n ha small = literal_comes code.Addl a n 0 (c.conversion UnsignedInt UnsignedInt n) ha (ap contents.word_answer (from_unsigned_same n))
  convert_comes m.U32 S64 a n ha small = literal_comes code.Zapnot a n 15 (c.conversion UnsignedInt Long n) ha (ap contents.word_answer (from_unsigned_long n))
  convert_comes m.U32 U64 a n ha small = literal_comes code.Zapnot a n 15 (c.conversion UnsignedInt UnsignedLong n) ha (ap contents.word_answer (from_unsigned_unsigned_long n))
  convert_comes m.U32 P64 a n ha small = tt
  convert_comes m.S64 S32 a n ha small = literal_comes code.Addl a n 0 (c.conversion Long Int n) ha (ap contents.word_answer (from_wide Long Int n (conversion-narrower Long Int n (omega arith)) refl))
  convert_comes m.S64 U32 a n ha small = literal_comes code.Addl a n 0 (c.conversion Long UnsignedInt n) ha (ap contents.word_answer (from_wide Long UnsignedInt n (conversion-narrower Long UnsignedInt n (omega arith)) refl))
  convert_comes m.S64 S64 a n ha small = zero_comes code.Bis a (Word n) (v.Gives (Word (c.conversion Long Long n))) ha (ap contents.word_answer (wide_same Long Long n small (conversion-narrower Long Long n (omega arith)) refl))
  convert_comes m.S64 U64 a n ha small = zero_comes code.Bis a (Word n) (v.Gives (Word (c.conversion Long UnsignedLong n))) ha (ap contents.word_answer (wide_same Long UnsignedLong n small (conversion-narrower Long UnsignedLong n (omega arith)) refl))
  convert_comes m.S64 P64 a n ha small = tt
  convert_comes m.U64 S32 a n ha small = literal_comes code.Addl a n 0 (c.conversion UnsignedLong Int n) ha (ap contents.word_answer (from_wide UnsignedLong Int n (conversion-narrower UnsignedLong Int n (omega arith)) refl))
  convert_comes m.U64 U32 a n ha small = literal_comes code.Addl a n 0 (c.conversion UnsignedLong UnsignedInt n) ha (ap contents.word_answer (from_wide UnsignedLong UnsignedInt n (conversion-narrower UnsignedLong UnsignedInt n (omega arith)) refl))
  convert_comes m.U64 S64 a n ha small = zero_comes code.Bis a (Word n) (v.Gives (Word (c.conversion UnsignedLong Long n))) ha (ap contents.word_answer (wide_same UnsignedLong Long n small (conversion-narrower UnsignedLong Long n (omega arith)) refl))
  convert_comes m.U64 U64 a n ha small = zero_comes code.Bis a (Word n) (v.Gives (Word (c.conversion UnsignedLong UnsignedLong n))) ha (ap contents.word_answer (wide_same UnsignedLong UnsignedLong n small (conversion-narrower UnsignedLong UnsignedLong n (omega arith)) refl))
  convert_comes m.U64 P64 a n ha small = tt
  convert_comes m.P64 S32 a n ha small = tt
  convert_comes m.P64 U32 a n ha small = tt
  convert_comes m.P64 S64 a n ha small = tt
  convert_comes m.P64 U64 a n ha small = tt
  convert_comes m.P64 P64 a n ha small = tt

-- ---- the laws

pub moves_done : UnaryIsDone Move
moves_done ty widest own d a s o x i held ha = zero_comes widest own s o d code.Bis a x (unary_answer Move ty x) ha (move_matches o.memory ty x)

pub negations_done : UnaryIsDone Negate
negations_done ty widest own d a s o x i held ha = zero_comes widest own s o d (difference_op ty) a x (unary_answer Negate ty x) ha (negate_matches o.memory ty x)

pub complements_done : UnaryIsDone Complement
complements_done ty widest own d a s o x i held ha = zero_comes widest own s o d code.Ornot a x (unary_answer Complement ty x) ha (complement_matches o.memory ty x)

pub sums_done : BinaryIsDone Add
sums_done ty widest own d a b s o x y i j ha hb = two_comes widest own s o d (sum_op ty) a b x y (binary_answer o.memory Add ty x y) ha hb (sum_matches o.memory ty x y)

pub products_done : BinaryIsDone Multiply
products_done ty widest own d a b s o x y i j ha hb = two_comes widest own s o d (product_op ty) a b x y (binary_answer o.memory Multiply ty x y) ha hb (product_matches o.memory ty x y)

pub conjunctions_done : BinaryIsDone And
conjunctions_done ty widest own d a b s o x y i j ha hb = two_comes widest own s o d code.And a b x y (binary_answer o.memory And ty x y) ha hb (and_matches o.memory ty x y)

pub disjunctions_done : BinaryIsDone Or
disjunctions_done ty widest own d a b s o x y i j ha hb = two_comes widest own s o d code.Bis a b x y (binary_answer o.memory Or ty x y) ha hb (or_matches o.memory ty x y)

pub exclusive_disjunctions_done : BinaryIsDone ExclusiveOr
exclusive_disjunctions_done ty widest own d a b s o x y i j ha hb = two_comes widest own s o d code.Xor a b x y (binary_answer o.memory ExclusiveOr ty x y) ha hb (xor_matches o.memory ty x y)

pub differences_done : BinaryIsDone Subtract
differences_done ty widest own d a b s o x y i j ha hb = two_comes widest own s o d (difference_op ty) a b x y (binary_answer o.memory Subtract ty x y) ha hb (difference_matches o.memory ty x y)

pub equalities_done : CompareIsDone Equal
equalities_done ty widest own d a b s o x y i j ha hb = two_comes widest own s o d code.Cmpeq a b x y (compare_answer o.memory Equal ty x y) ha hb (equal_matches o.memory ty x y)

pub less_done : CompareIsDone Less
less_done ty widest own d a b s o x y i j ha hb = two_comes widest own s o d (less_op (is_unsigned ty)) a b x y (compare_answer o.memory Less ty x y) ha hb (less_matches o.memory ty x y)

pub at_most_done : CompareIsDone LessOrEqual
at_most_done ty widest own d a b s o x y i j ha hb = two_comes widest own s o d (less_or_equal_op (is_unsigned ty)) a b x y (compare_answer o.memory LessOrEqual ty x y) ha hb (at_most_matches o.memory ty x y)

pub inequalities_done : CompareIsDone NotEqual
inequalities_done ty widest own d a b s o x y i j ha hb =
    let t = test_of o.memory ty x y in
    subst (λ w. CodeAnswers s o d w (runs widest (on_two code.Cmpeq 0 a b ∷ on_literal code.Cmpeq d 0 0 ∷ []) own s o)) (sym t.unlike)
    (not_comes widest own s o d a b x y ha hb t.test (subst (λ w. Matches w (operate_answer o.memory code.Cmpeq (Plain x) (Plain y))) t.equal (equal_matches o.memory ty x y)))

pub conversions_done : ConversionsAreDone
conversions_done from to widest own d a s o (Word n) i held ha = convert_comes widest own s o d from to a n ha held
conversions_done m.S8 S32 widest own d a s o (Address p) i held ha = tt
conversions_done m.S8 U32 widest own d a s o (Address p) i held ha = tt
conversions_done m.S8 S64 widest own d a s o (Address p) i held ha = tt
conversions_done m.S8 U64 widest own d a s o (Address p) i held ha = tt
conversions_done m.S8 P64 widest own d a s o (Address p) i held ha = tt
conversions_done m.U8 S32 widest own d a s o (Address p) i held ha = tt
conversions_done m.U8 U32 widest own d a s o (Address p) i held ha = tt
conversions_done m.U8 S64 widest own d a s o (Address p) i held ha = tt
conversions_done m.U8 U64 widest own d a s o (Address p) i held ha = tt
conversions_done m.U8 P64 widest own d a s o (Address p) i held ha = tt
conversions_done m.S16 S32 widest own d a s o (Address p) i held ha = tt
conversions_done m.S16 U32 widest own d a s o (Address p) i held ha = tt
conversions_done m.S16 S64 widest own d a s o (Address p) i held ha = tt
conversions_done m.S16 U64 widest own d a s o (Address p) i held ha = tt
conversions_done m.S16 P64 widest own d a s o (Address p) i held ha = tt
conversions_done m.U16 S32 widest own d a s o (Address p) i held ha = tt
conversions_done m.U16 U32 widest own d a s o (Address p) i held ha = tt
conversions_done m.U16 S64 widest own d a s o (Address p) i held ha = tt
conversions_done m.U16 U64 widest own d a s o (Address p) i held ha = tt
conversions_done m.U16 P64 widest own d a s o (Address p) i held ha = tt
conversions_done m.S32 S32 widest own d a s o (Address p) i held ha = tt
conversions_done m.S32 U32 widest own d a s o (Address p) i held ha = tt
conversions_done m.S32 S64 widest own d a s o (Address p) i held ha = tt
conversions_done m.S32 U64 widest own d a s o (Address p) i held ha = tt
conversions_done m.S32 P64 widest own d a s o (Address p) i held ha = tt
conversions_done m.U32 S32 widest own d a s o (Address p) i held ha = tt
conversions_done m.U32 U32 widest own d a s o (Address p) i held ha = tt
conversions_done m.U32 S64 widest own d a s o (Address p) i held ha = tt
conversions_done m.U32 U64 widest own d a s o (Address p) i held ha = tt
conversions_done m.U32 P64 widest own d a s o (Address p) i held ha = tt
conversions_done m.S64 S32 widest own d a s o (Address p) i held ha = tt
conversions_done m.S64 U32 widest own d a s o (Address p) i held ha = tt
conversions_done m.S64 S64 widest own d a s o (Address p) i held ha = tt
conversions_done m.S64 U64 widest own d a s o (Address p) i held ha = tt
conversions_done m.S64 P64 widest own d a s o (Address p) i held ha = tt
conversions_done m.U64 S32 widest own d a s o (Address p) i held ha = tt
conversions_done m.U64 U32 widest own d a s o (Address p) i held ha = tt
conversions_done m.U64 S64 widest own d a s o (Address p) i held ha = tt
conversions_done m.U64 U64 widest own d a s o (Address p) i held ha = tt
conversions_done m.U64 P64 widest own d a s o (Address p) i held ha = tt
conversions_done m.P64 to widest own d a s o (Address p) i held ha = tt
conversions_done m.S8 S32 widest own d a s o Unset i held ha = tt
conversions_done m.S8 U32 widest own d a s o Unset i held ha = tt
conversions_done m.S8 S64 widest own d a s o Unset i held ha = tt
conversions_done m.S8 U64 widest own d a s o Unset i held ha = tt
conversions_done m.S8 P64 widest own d a s o Unset i held ha = tt
conversions_done m.U8 S32 widest own d a s o Unset i held ha = tt
conversions_done m.U8 U32 widest own d a s o Unset i held ha = tt
conversions_done m.U8 S64 widest own d a s o Unset i held ha = tt
conversions_done m.U8 U64 widest own d a s o Unset i held ha = tt
conversions_done m.U8 P64 widest own d a s o Unset i held ha = tt
conversions_done m.S16 S32 widest own d a s o Unset i held ha = tt
conversions_done m.S16 U32 widest own d a s o Unset i held ha = tt
conversions_done m.S16 S64 widest own d a s o Unset i held ha = tt
conversions_done m.S16 U64 widest own d a s o Unset i held ha = tt
conversions_done m.S16 P64 widest own d a s o Unset i held ha = tt
conversions_done m.U16 S32 widest own d a s o Unset i held ha = tt
conversions_done m.U16 U32 widest own d a s o Unset i held ha = tt
conversions_done m.U16 S64 widest own d a s o Unset i held ha = tt
conversions_done m.U16 U64 widest own d a s o Unset i held ha = tt
conversions_done m.U16 P64 widest own d a s o Unset i held ha = tt
conversions_done m.S32 S32 widest own d a s o Unset i held ha = tt
conversions_done m.S32 U32 widest own d a s o Unset i held ha = tt
conversions_done m.S32 S64 widest own d a s o Unset i held ha = tt
conversions_done m.S32 U64 widest own d a s o Unset i held ha = tt
conversions_done m.S32 P64 widest own d a s o Unset i held ha = tt
conversions_done m.U32 S32 widest own d a s o Unset i held ha = tt
conversions_done m.U32 U32 widest own d a s o Unset i held ha = tt
conversions_done m.U32 S64 widest own d a s o Unset i held ha = tt
conversions_done m.U32 U64 widest own d a s o Unset i held ha = tt
conversions_done m.U32 P64 widest own d a s o Unset i held ha = tt
conversions_done m.S64 S32 widest own d a s o Unset i held ha = tt
conversions_done m.S64 U32 widest own d a s o Unset i held ha = tt
conversions_done m.S64 S64 widest own d a s o Unset i held ha = tt
conversions_done m.S64 U64 widest own d a s o Unset i held ha = tt
conversions_done m.S64 P64 widest own d a s o Unset i held ha = tt
conversions_done m.U64 S32 widest own d a s o Unset i held ha = tt
conversions_done m.U64 U32 widest own d a s o Unset i held ha = tt
conversions_done m.U64 S64 widest own d a s o Unset i held ha = tt
conversions_done m.U64 U64 widest own d a s o Unset i held ha = tt
conversions_done m.U64 P64 widest own d a s o Unset i held ha = tt
conversions_done m.P64 to widest own d a s o Unset i held ha = tt
