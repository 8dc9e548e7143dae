-- The temporaries that the code of a function names.
use Rattle.std.proofs.Common.{◌≡◌, ℕ, zero, suc, ◌+◌, ◌-◌, ◌<◌, ◌≤◌, List, [], ◌∷◌, ◌++◌, length, Bool, true, false, ℤ, pos, Option, Some, None, All, refl, sym, subst, arith}
use Rattle.std.specs.Prelude.{◌==◌, nat_lt, if◌then◌else◌}
use Rattle.std.specs.Int.{w16}
use Rattle.std.proofs.lemmas.List.Elements.{All-nil, All-cons, All-head, All-tail, All-append}
use Rattle.alpha_isa.specs.Arithmetic.{fits_signed, word_from}
use Rattle.alpha_constants.specs.declared.recipe.Finish.{Finish}
use Rattle.alpha_constants.specs.declared.recipe.Finish.TheVariants.{Nothing, ShiftLeft, ShiftRight, LowHalf, AddLower}
use Rattle.alpha_constants.specs.Recipes.{low_part, high_part, is_zero, recipe_of}
use Rattle.suifvm_ir.specs.declared.types.VmType.{VmType}
use Rattle.suifvm_ir.specs.declared.types.MemoryType.{MemoryType}
use Rattle.suifvm_ir.specs.declared.types.MemoryType.TheVariants as m
use Rattle.suifvm_ir.specs.declared.types.Alignment.{Alignment}
use Rattle.suifvm_ir.specs.declared.insn.VmBinaryOp.{VmBinaryOp}
use Rattle.suifvm_ir.specs.declared.insn.VmBinaryOp.TheVariants.{Add, Subtract, Multiply, Divide, Remainder, And, Or, ExclusiveOr}
use Rattle.suifvm_ir.specs.declared.insn.ShiftOp.{ShiftOp}
use Rattle.suifvm_ir.specs.declared.insn.ShiftOp.TheVariants.{ArithmeticRight, Left, LogicalRight}
use Rattle.suifvm_ir.specs.declared.insn.CompareOp.{CompareOp}
use Rattle.suifvm_ir.specs.declared.insn.CompareOp.TheVariants.{Equal, NotEqual, Less, LessOrEqual}
use Rattle.suifvm_ir.specs.declared.insn.VmBuiltin.TheVariants.{PutChar, GetChar, Abort, Exit}
use Rattle.suifvm_ir.specs.declared.insn.VmCallee.{VmCallee}
use Rattle.suifvm_ir.specs.declared.insn.VmCallee.TheVariants as callee
use Rattle.suifvm_ir.specs.declared.insn.TypedRegister.{TypedRegister}
use Rattle.suifvm_ir.specs.declared.insn.VmInsn.{VmInsn}
use Rattle.suifvm_ir.specs.declared.insn.VmInsn.TheVariants as x
use Rattle.suifvm_ir.specs.Insns as vm
use Rattle.pass_core.specs.Functions.{AllInsns, UsesRegisters}
use Rattle.suifvm_ir.specs.Programs.{alignment_bytes}
use Rattle.temp_ir.specs.declared.operation.AddressOp.TheVariants.{Lda, Ldah}
use Rattle.temp_ir.specs.declared.operation.Operation.TheVariants.{Bis, Addq}
use Rattle.temp_ir.specs.declared.operation.DivisionRoutine.{DivisionRoutine}
use Rattle.temp_ir.specs.declared.insn.FirstOperand.TheVariants as source
use Rattle.temp_ir.specs.declared.insn.SecondOperand.TheVariants as operand
use Rattle.temp_ir.specs.declared.insn.TempInsn.{TempInsn}
use Rattle.temp_ir.specs.declared.insn.TempInsn.TheVariants as i
use Rattle.temp_ir.specs.Insns.{reads_of, writes_of}
use Rattle.selection_forms.specs.alpha_forms.Constants.{unless_zero, near_items, lower_items, finish_items, recipe_items, constant_items}
use Rattle.selection_forms.specs.alpha_forms.Accesses.{near_load, near_store, far_items, load_by, load_items, store_by, store_items}
use Rattle.selection_forms.specs.alpha_forms.Operations.{binary_items, division_items, left_items, logical_right_items, shift_items, compare_items, convert_item, is_narrow, from_unsigned_item, from_wide_item}
use Rattle.selection_forms.specs.alpha_copies.Copies.{part_items, moved_items, copy_reach, parts_items}
use Rattle.selection_code.specs.Instructions.{temp_of, pass_item, pass_items, take_item, take_items, result_items, byte_items, put_char_items, exit_call_items, call_items, return_items, selected_insn, argument_register}
use Rattle.selection_code.specs.Functions.{selected_insns, parameter_items, selected_blocks}
use Rattle.selection_bounds.specs.selection_shapes.Shapes.{RegistersAreUsed}
use Rattle.selection_bounds.proofs.SelectionShapes.Walk.{all_insns, all_blocks}

-- an instruction names temporaries below a number
abbrev pub Uses : (n : ℕ) → TempInsn → Type 0
Uses n z = UsesRegisters reads_of writes_of n z

pub AllUse : (n : ℕ) → List TempInsn → Type 0
AllUse n xs = All (UsesRegisters reads_of writes_of n) xs

module _ (n : ℕ) (some : 4 ≤ n) where
  none : All (λ t. t < n) []
  none = All-nil (λ t. t < n)

  one : (a : ℕ) → a < n → All (λ t. t < n) (a ∷ [])
  one a f = All-cons (λ t. t < n) a [] f none

  two : (a b : ℕ) → a < n → b < n → All (λ t. t < n) (a ∷ b ∷ [])
  two a b f g = All-cons (λ t. t < n) a (b ∷ []) f (one b g)

  use_nil : AllUse n []
  unfolding AllUse
  use_nil = All-nil (UsesRegisters reads_of writes_of n)

  use_more : (z : TempInsn) (xs : List TempInsn) → Uses n z → AllUse n xs → AllUse n (z ∷ xs)
  unfolding AllUse
  use_more z xs h g = All-cons (UsesRegisters reads_of writes_of n) z xs h g

  use_one : (z : TempInsn) → Uses n z → AllUse n (z ∷ [])
  use_one z h = use_more z [] h use_nil

  use_both : (xs ys : List TempInsn) → AllUse n xs → AllUse n ys → AllUse n (xs ++ ys)
  unfolding AllUse
  use_both xs ys h g = All-append (UsesRegisters reads_of writes_of n) xs ys h g

  use_if : (b : Bool) (xs ys : List TempInsn) → AllUse n xs → AllUse n ys → AllUse n (if b then xs else ys)
  use_if true xs ys h g = h
  use_if false xs ys h g = g

  zero_below : 0 < n
  zero_below = omega (arith, some)

  one_below : 1 < n
  one_below = omega (arith, some)

  two_below : 2 < n
  two_below = omega (arith, some)

  -- ---- constants

  unless_uses : (z : ℤ) (y : TempInsn) → Uses n y → AllUse n (unless_zero z y)
  unless_uses z y h = use_if (is_zero z) [] (y ∷ []) use_nil (use_one y h)

  near_uses : (d k : ℕ) → d < n → AllUse n (near_items d k)
  near_uses d k f =
      use_if (is_zero (high_part k)) (i.Address Lda d source.Zero (low_part k) ∷ []) (i.Address Ldah d source.Zero (high_part k) ∷ unless_zero (low_part k) (i.Address Lda d (source.Temp d) (low_part k)))
      (use_one (i.Address Lda d source.Zero (low_part k)) (none, one d f))
      (use_more (i.Address Ldah d source.Zero (high_part k)) (unless_zero (low_part k) (i.Address Lda d (source.Temp d) (low_part k))) (none, one d f)
      (unless_uses (low_part k) (i.Address Lda d (source.Temp d) (low_part k)) (one d f, one d f)))

  lower_uses : (d k : ℕ) → d < n → AllUse n (lower_items d k)
  lower_uses d k f =
      use_both (unless_zero (high_part k) (i.Address Ldah d (source.Temp d) (high_part k))) (unless_zero (low_part k) (i.Address Lda d (source.Temp d) (low_part k)))
      (unless_uses (high_part k) (i.Address Ldah d (source.Temp d) (high_part k)) (one d f, one d f)) (unless_uses (low_part k) (i.Address Lda d (source.Temp d) (low_part k)) (one d f, one d f))

  finish_uses : (d : ℕ) (e : Finish) → d < n → AllUse n (finish_items d e)
  finish_uses d Nothing f = use_nil
  finish_uses d (ShiftLeft places) f = use_one _ (one d f, one d f)
  finish_uses d (ShiftRight places) f = use_one _ (one d f, one d f)
  finish_uses d LowHalf f = use_one _ (one d f, one d f)
  finish_uses d (AddLower lower) f = use_more _ (lower_items d lower) (one d f, one d f) (lower_uses d lower f)

  constant_uses : (d word : ℕ) → d < n → AllUse n (constant_items d word)
  unfolding constant_items
  constant_uses d word f =
      use_if (word == 0) (i.Operate Bis d source.Zero (operand.Literal 0) ∷ []) (recipe_items d (recipe_of word)) (use_one (i.Operate Bis d source.Zero (operand.Literal 0)) (none, one d f))
      (use_both (near_items d (recipe_of word).near) (finish_items d (recipe_of word).finish) (near_uses d (recipe_of word).near f) (finish_uses d (recipe_of word).finish f))

  -- ---- accesses

  near_load_uses : (ty : MemoryType) (d p : ℕ) (plus : ℤ) → d < n → p < n → AllUse n (near_load ty d p plus)
  near_load_uses m.S8 d p plus f g = use_more _ _ (one p g, one 0 zero_below) (use_one _ (one 0 zero_below, one d f))
  near_load_uses m.U8 d p plus f g = use_one _ (one p g, one d f)
  near_load_uses m.S16 d p plus f g = use_more _ _ (one p g, one 0 zero_below) (use_one _ (one 0 zero_below, one d f))
  near_load_uses m.U16 d p plus f g = use_one _ (one p g, one d f)
  near_load_uses m.S32 d p plus f g = use_one _ (one p g, one d f)
  near_load_uses m.U32 d p plus f g = use_one _ (one p g, one d f)
  near_load_uses m.S64 d p plus f g = use_one _ (one p g, one d f)
  near_load_uses m.U64 d p plus f g = use_one _ (one p g, one d f)
  near_load_uses m.P64 d p plus f g = use_one _ (one p g, one d f)

  far_uses : (p : ℕ) (plus : ℤ) → p < n → AllUse n (far_items p plus)
  far_uses p plus g =
      use_both (constant_items 0 (word_from plus)) (i.Operate Addq 0 (source.Temp p) (operand.Temp 0) ∷ []) (constant_uses 0 (word_from plus) zero_below)
      (use_one (i.Operate Addq 0 (source.Temp p) (operand.Temp 0)) (two p 0 g zero_below, one 0 zero_below))

  load_uses : (ty : MemoryType) (d p : ℕ) (plus : ℤ) → d < n → p < n → AllUse n (load_items ty d p plus)
  load_uses ty d p plus f g = by_fit (fits_signed w16 plus)
    where
      by_fit : (b : Bool) → AllUse n (load_by ty d p plus (if b then Some plus else None))
      by_fit true = near_load_uses ty d p plus f g
      by_fit false = use_both (far_items p plus) (near_load ty d 0 (pos 0)) (far_uses p plus g) (near_load_uses ty d 0 (pos 0) f zero_below)

  store_uses : (ty : MemoryType) (p : ℕ) (plus : ℤ) (a : ℕ) → p < n → a < n → AllUse n (store_items ty p plus a)
  store_uses ty p plus a g f = by_fit (fits_signed w16 plus)
    where
      by_fit : (b : Bool) → AllUse n (store_by ty p plus a (if b then Some plus else None))
      by_fit true = use_one _ (two a p f g, none)
      by_fit false = use_both (far_items p plus) (near_store ty a 0 (pos 0)) (far_uses p plus g) (use_one _ (two a 0 f zero_below, none))

  part_uses : (al : Alignment) (to from at : ℕ) → to < n → from < n → AllUse n (part_items al to from at)
  part_uses al to from at f g = use_more _ _ (one from g, one 0 zero_below) (use_one _ (two 0 to zero_below f, none))

  parts_uses : (al : Alignment) (count to from at : ℕ) → to < n → from < n → AllUse n (parts_items al count to from at)
  parts_uses al zero to from at f g = use_nil
  parts_uses al (suc count) to from at f g =
      use_if (nat_lt at copy_reach) (part_items al to from at ++ parts_items al count to from (at + alignment_bytes al))
      (moved_items to from at ++ (part_items al 1 2 0 ++ parts_items al count 1 2 (alignment_bytes al)))
      (use_both (part_items al to from at) (parts_items al count to from (at + alignment_bytes al)) (part_uses al to from at f g) (parts_uses al count to from (at + alignment_bytes al) f g))
      (use_more _ _ (one to f, one 1 one_below) (use_more _ _ (one from g, one 2 two_below)
      (use_both (part_items al 1 2 0) (parts_items al count 1 2 (alignment_bytes al)) (part_uses al 1 2 0 one_below two_below) (parts_uses al count 1 2 (alignment_bytes al) one_below two_below))))

  -- ---- operations

  division_uses : (r : DivisionRoutine) (d a b : ℕ) → d < n → a < n → b < n → AllUse n (division_items r d a b)
  division_uses r d a b f g h = use_more _ _ (one a g, none) (use_more _ _ (one b h, none) (use_more _ _ (none, none) (use_one _ (none, one d f))))

  binary_uses : (op : VmBinaryOp) (ty : VmType) (d a b : ℕ) → d < n → a < n → b < n → AllUse n (binary_items op ty d a b)
  binary_uses Add ty d a b f g h = use_one _ (two a b g h, one d f)
  binary_uses Subtract ty d a b f g h = use_one _ (two a b g h, one d f)
  binary_uses Multiply ty d a b f g h = use_one _ (two a b g h, one d f)
  binary_uses Divide ty d a b f g h = division_uses _ d a b f g h
  binary_uses Remainder ty d a b f g h = division_uses _ d a b f g h
  binary_uses And ty d a b f g h = use_one _ (two a b g h, one d f)
  binary_uses Or ty d a b f g h = use_one _ (two a b g h, one d f)
  binary_uses ExclusiveOr ty d a b f g h = use_one _ (two a b g h, one d f)

  left_uses : (narrow : Bool) (d a b : ℕ) → d < n → a < n → b < n → AllUse n (left_items narrow d a b)
  left_uses true d a b f g h = use_more _ _ (two a b g h, one 0 zero_below) (use_one _ (one 0 zero_below, one d f))
  left_uses false d a b f g h = use_one _ (two a b g h, one d f)

  right_uses : (narrow : Bool) (d a b : ℕ) → d < n → a < n → b < n → AllUse n (logical_right_items narrow d a b)
  right_uses true d a b f g h = use_more _ _ (one a g, one 0 zero_below) (use_more _ _ (two 0 b zero_below h, one 0 zero_below) (use_one _ (one 0 zero_below, one d f)))
  right_uses false d a b f g h = use_one _ (two a b g h, one d f)

  shift_uses : (op : ShiftOp) (ty : VmType) (d a b : ℕ) → d < n → a < n → b < n → AllUse n (shift_items op ty d a b)
  shift_uses ArithmeticRight ty d a b f g h = use_one _ (two a b g h, one d f)
  shift_uses Left ty d a b f g h = left_uses (is_narrow ty) d a b f g h
  shift_uses LogicalRight ty d a b f g h = right_uses (is_narrow ty) d a b f g h

  compare_uses : (op : CompareOp) (ty : VmType) (d a b : ℕ) → d < n → a < n → b < n → AllUse n (compare_items op ty d a b)
  compare_uses Equal ty d a b f g h = use_one _ (two a b g h, one d f)
  compare_uses NotEqual ty d a b f g h = use_more _ _ (two a b g h, one 0 zero_below) (use_one _ (one 0 zero_below, one d f))
  compare_uses Less ty d a b f g h = use_one _ (two a b g h, one d f)
  compare_uses LessOrEqual ty d a b f g h = use_one _ (two a b g h, one d f)

  from_unsigned_uses : (narrow : Bool) (d a : ℕ) → d < n → a < n → Uses n (from_unsigned_item narrow d a)
  from_unsigned_uses true d a f g = (one a g, one d f)
  from_unsigned_uses false d a f g = (one a g, one d f)

  from_wide_uses : (narrow : Bool) (d a : ℕ) → d < n → a < n → Uses n (from_wide_item narrow d a)
  from_wide_uses true d a f g = (one a g, one d f)
  from_wide_uses false d a f g = (one a g, one d f)

  convert_uses : (from : MemoryType) (to : VmType) (d a : ℕ) → d < n → a < n → Uses n (convert_item from to d a)
  convert_uses m.S8 to d a f g = (one a g, one d f)
  convert_uses m.U8 to d a f g = (one a g, one d f)
  convert_uses m.S16 to d a f g = (one a g, one d f)
  convert_uses m.U16 to d a f g = (one a g, one d f)
  convert_uses m.S32 to d a f g = (one a g, one d f)
  convert_uses m.U32 to d a f g = from_unsigned_uses (is_narrow to) d a f g
  convert_uses m.S64 to d a f g = from_wide_uses (is_narrow to) d a f g
  convert_uses m.U64 to d a f g = from_wide_uses (is_narrow to) d a f g
  convert_uses m.P64 to d a f g = from_wide_uses (is_narrow to) d a f g

  -- ---- calls

  pass_uses : (k t : ℕ) → t < n → Uses n (pass_item k t)
  pass_uses k t f = by_test (nat_lt k 6)
    where
      by_test : (b : Bool) → Uses n (if b then i.ToFixed (argument_register k) t else i.WriteArgument (k - 6) t)
      by_test true = (one t f, none)
      by_test false = (one t f, none)

  take_uses : (k t : ℕ) → t < n → Uses n (take_item k t)
  take_uses k t f = by_test (nat_lt k 6)
    where
      by_test : (b : Bool) → Uses n (if b then i.FromFixed t (argument_register k) else i.ReadArgument t (k - 6))
      by_test true = (none, one t f)
      by_test false = (none, one t f)

-- ---- of an instruction over registers, where there are so many

module _ (count : ℕ) where
  some : 4 ≤ count + 4
  some = omega arith

  room : (k : ℕ) → k < count → temp_of k < count + 4
  room k lt = omega (arith, lt)

  only : (k : ℕ) → All (λ r. r < count) (k ∷ []) → temp_of k < count + 4
  only k h = room k (All-head (λ r. r < count) k [] h)

  first : (k j : ℕ) → All (λ r. r < count) (k ∷ j ∷ []) → temp_of k < count + 4
  first k j h = room k (All-head (λ r. r < count) k (j ∷ []) h)

  second : (k j : ℕ) → All (λ r. r < count) (k ∷ j ∷ []) → temp_of j < count + 4
  second k j h = only j (All-tail (λ r. r < count) k (j ∷ []) h)

  passes_use : (k : ℕ) (arguments : List ℕ) → All (λ r. r < count) arguments → AllUse (count + 4) (pass_items k arguments)
  passes_use k [] h = use_nil (count + 4) some
  passes_use k (a ∷ arguments) h =
      use_more (count + 4) some (pass_item k (temp_of a)) (pass_items (suc k) arguments) (pass_uses (count + 4) some k (temp_of a) (room a (All-head (λ r. r < count) a arguments h)))
      (passes_use (suc k) arguments (All-tail (λ r. r < count) a arguments h))

  pub takes_use : (k rest : ℕ) → k + rest ≤ count → AllUse (count + 4) (take_items k rest)
  takes_use k zero le = use_nil (count + 4) some
  takes_use k (suc rest) le =
      use_more (count + 4) some (take_item k (temp_of k)) (take_items (suc k) rest) (take_uses (count + 4) some k (temp_of k) (room k (omega (arith, le)))) (takes_use (suc k) rest (omega (arith, le)))

  result_use : (d : Option ℕ) → All (λ r. r < count) (vm.named_register d) → AllUse (count + 4) (result_items d)
  result_use None h = use_nil (count + 4) some
  result_use (Some d) h = use_one (count + 4) some _ (none (count + 4) some, one (count + 4) some (temp_of d) (only d h))

  byte_use : (d : Option ℕ) (a : ℕ) → a < count → All (λ r. r < count) (vm.named_register d) → AllUse (count + 4) (byte_items d a)
  byte_use None a f h = use_nil (count + 4) some
  byte_use (Some d) a f h = use_one (count + 4) some _ (one (count + 4) some (temp_of a) (room a f), one (count + 4) some (temp_of d) (only d h))

  no_temps : (z : TempInsn) (xs : List TempInsn) → reads_of z ≡ [] → writes_of z ≡ [] → AllUse (count + 4) xs → AllUse (count + 4) (z ∷ xs)
  no_temps z xs e f h =
      use_more (count + 4) some z xs (subst (λ l. All (λ t. t < count + 4) l) (sym e) (none (count + 4) some), subst (λ l. All (λ t. t < count + 4) l) (sym f) (none (count + 4) some)) h

  put_char_use : (d : Option ℕ) (arguments : List ℕ) → All (λ r. r < count) arguments → All (λ r. r < count) (vm.named_register d) → AllUse (count + 4) (put_char_items d arguments)
  put_char_use d [] h g = use_nil (count + 4) some
  put_char_use d (a ∷ arguments) h g =
      let f = All-head (λ r. r < count) a arguments h in
      use_more (count + 4) some _ _ (one (count + 4) some (temp_of a) (room a f), none (count + 4) some) (no_temps _ _ refl refl (no_temps _ _ refl refl (byte_use d a f g)))

  exit_use : (arguments : List ℕ) → All (λ r. r < count) arguments → AllUse (count + 4) (exit_call_items arguments)
  exit_use [] h = use_nil (count + 4) some
  exit_use (a ∷ arguments) h =
      use_more (count + 4) some _ _ (one (count + 4) some (temp_of a) (room a (All-head (λ r. r < count) a arguments h)), none (count + 4) some)
      (no_temps _ _ refl refl (no_temps _ [] refl refl (use_nil (count + 4) some)))

  call_use : (d : Option ℕ) (c : VmCallee) (arguments : List ℕ) → All (λ r. r < count) arguments → All (λ r. r < count) (vm.named_register d) → AllUse (count + 4) (call_items d c arguments)
  call_use d (callee.Function k) arguments h g =
      use_both (count + 4) some (pass_items 0 arguments) (i.Call k (length arguments) ∷ result_items d) (passes_use 0 arguments h) (no_temps (i.Call k (length arguments)) (result_items d) refl refl (result_use d g))
  call_use d (callee.Builtin PutChar) arguments h g = put_char_use d arguments h g
  call_use d (callee.Builtin GetChar) arguments h g = no_temps _ _ refl refl (no_temps _ (result_items d) refl refl (result_use d g))
  call_use d (callee.Builtin Abort) arguments h g = no_temps _ _ refl refl (no_temps _ [] refl refl (use_nil (count + 4) some))
  call_use d (callee.Builtin Exit) arguments h g = exit_use arguments h

  return_use : (value : Option TypedRegister) → All (λ r. r < count) (vm.returned_register value) → AllUse (count + 4) (return_items value)
  return_use None h = no_temps (i.Return false) [] refl refl (use_nil (count + 4) some)
  return_use (Some value) h =
      use_more (count + 4) some _ _ (one (count + 4) some (temp_of value.register) (only value.register h), none (count + 4) some) (no_temps (i.Return true) [] refl refl (use_nil (count + 4) some))

  insn_use : (y : VmInsn) → UsesRegisters vm.reads_of vm.writes_of count y → AllUse (count + 4) (selected_insn y)
  insn_use (x.LoadConstant ty d word) h = constant_uses (count + 4) some (temp_of d) word (only d h.1)
  insn_use (x.LoadAddress d place plus) h = use_one (count + 4) some _ (none (count + 4) some, one (count + 4) some (temp_of d) (only d h.1))
  insn_use (x.Load ty d p plus) h = load_uses (count + 4) some ty (temp_of d) (temp_of p) plus (only d h.1) (only p h.0)
  insn_use (x.Store ty p plus a) h = store_uses (count + 4) some ty (temp_of p) plus (temp_of a) (first p a h.0) (second p a h.0)
  insn_use (x.Copy to from size align) h = parts_uses (count + 4) some align _ (temp_of to) (temp_of from) 0 (first to from h.0) (second to from h.0)
  insn_use (x.Unary op ty d a) h = use_one (count + 4) some _ (one (count + 4) some (temp_of a) (only a h.0), one (count + 4) some (temp_of d) (only d h.1))
  insn_use (x.Binary op ty d a b) h = binary_uses (count + 4) some op ty (temp_of d) (temp_of a) (temp_of b) (only d h.1) (first a b h.0) (second a b h.0)
  insn_use (x.Shift op ty d a b) h = shift_uses (count + 4) some op ty (temp_of d) (temp_of a) (temp_of b) (only d h.1) (first a b h.0) (second a b h.0)
  insn_use (x.Convert from to d a) h = use_one (count + 4) some _ (convert_uses (count + 4) some from to (temp_of d) (temp_of a) (only d h.1) (only a h.0))
  insn_use (x.Compare op ty d a b) h = compare_uses (count + 4) some op ty (temp_of d) (temp_of a) (temp_of b) (only d h.1) (first a b h.0) (second a b h.0)
  insn_use (x.Branch op ty a block) h = use_one (count + 4) some _ (one (count + 4) some (temp_of a) (only a h.0), none (count + 4) some)
  insn_use (x.Jump block) h = no_temps (i.Jump block) [] refl refl (use_nil (count + 4) some)
  insn_use (x.Call d c arguments) h = call_use d c arguments h.0 h.1
  insn_use (x.Return value) h = return_use value h.0
  insn_use x.Mark h = no_temps i.Mark [] refl refl (use_nil (count + 4) some)
  insn_use x.Nop h = use_nil (count + 4) some

  pub insns_use : (insns : List VmInsn) → All (UsesRegisters vm.reads_of vm.writes_of count) insns → AllUse (count + 4) (selected_insns insns)
  insns_use insns h = all_insns (UsesRegisters vm.reads_of vm.writes_of count) (AllUse (count + 4)) (use_nil (count + 4) some) (use_both (count + 4) some) insn_use insns h

-- ---- a function

blocks_use : (count params : ℕ) (blocks : List (List VmInsn)) → params ≤ count → AllInsns (UsesRegisters vm.reads_of vm.writes_of count) blocks → All (AllUse (count + 4)) (selected_blocks params blocks)
blocks_use count params blocks le h =
    all_blocks (All (UsesRegisters vm.reads_of vm.writes_of count)) (AllUse (count + 4)) (insns_use count) params
    (λ insns g. use_both (count + 4) (some count) (parameter_items params) (selected_insns insns) (takes_use count 0 params (omega (arith, le))) (insns_use count insns g)) blocks h

pub registers_used : RegistersAreUsed
unfolding AllUse
registers_used f le = blocks_use f.temps f.params f.blocks le f.registers
