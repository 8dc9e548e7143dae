-- How many instructions the code has.
use Rattle.std.proofs.Common.{◌≡◌, ℕ, zero, suc, ◌+◌, ◌*◌, ◌≤◌, List, [], ◌∷◌, ◌++◌, length, map, sum_by, Bool, true, false, ℤ, pos, Option, Some, None, refl, ap, ◌∙◌, arith, length-append}
use Rattle.std.specs.Prelude.{if◌then◌else◌}
use Rattle.std.proofs.lemmas.List.{length-map}
use Rattle.std.proofs.lemmas.List.Sums.{sum_by-cons}
use Rattle.std.specs.Int.{w16}
use Rattle.alpha_isa.specs.Arithmetic.{fits_signed, word_from}
use Rattle.suifvm_ir.specs.declared.types.VmType.{VmType}
use Rattle.suifvm_ir.specs.declared.types.MemoryType.{MemoryType}
use Rattle.suifvm_ir.specs.declared.types.MemoryType.TheVariants.{S8, U8, S16, U16, S32, U32, S64, U64, P64}
use Rattle.suifvm_ir.specs.declared.insn.VmBinaryOp.{VmBinaryOp}
use Rattle.suifvm_ir.specs.declared.insn.VmBinaryOp.TheVariants.{Add, Subtract, Multiply, Divide, Remainder, And, Or, ExclusiveOr}
use Rattle.suifvm_ir.specs.declared.insn.ShiftOp.{ShiftOp}
use Rattle.suifvm_ir.specs.declared.insn.ShiftOp.TheVariants.{ArithmeticRight, Left, LogicalRight}
use Rattle.suifvm_ir.specs.declared.insn.CompareOp.{CompareOp}
use Rattle.suifvm_ir.specs.declared.insn.CompareOp.TheVariants.{Equal, NotEqual, Less, LessOrEqual}
use Rattle.suifvm_ir.specs.declared.insn.VmBuiltin.{VmBuiltin}
use Rattle.suifvm_ir.specs.declared.insn.VmBuiltin.TheVariants.{PutChar, GetChar, Abort, Exit}
use Rattle.suifvm_ir.specs.declared.insn.VmCallee.{VmCallee}
use Rattle.suifvm_ir.specs.declared.insn.VmCallee.TheVariants as callee
use Rattle.suifvm_ir.specs.declared.insn.TypedRegister.{TypedRegister}
use Rattle.suifvm_ir.specs.declared.insn.VmInsn.{VmInsn}
use Rattle.suifvm_ir.specs.declared.insn.VmInsn.TheVariants as x
use Rattle.pass_core.specs.Functions.{count_of}
use Rattle.suifvm_ir.specs.Programs.{weight_of}
use Rattle.suifvm_ir.specs.Cost.{most_binary_insns, most_insns}
use Rattle.temp_ir.specs.declared.operation.Operation.TheVariants.{Addq}
use Rattle.temp_ir.specs.declared.insn.FirstOperand.TheVariants as source
use Rattle.temp_ir.specs.declared.insn.SecondOperand.TheVariants as operand
use Rattle.temp_ir.specs.declared.insn.TempInsn.{TempInsn}
use Rattle.temp_ir.specs.declared.insn.TempInsn.TheVariants.{Operate, Call}
use Rattle.selection_forms.specs.alpha_forms.Constants.{constant_items}
use Rattle.selection_forms.specs.alpha_forms.Accesses.{near_load, near_store, far_items, load_by, load_items, store_by, store_items}
use Rattle.selection_forms.specs.alpha_forms.Operations.{binary_items, left_items, logical_right_items, shift_items, compare_items, is_narrow}
use Rattle.selection_forms.proofs.AlphaForms.Making as making
use Rattle.selection_forms.proofs.AlphaCopies.Copying.{copies_short}
use Rattle.selection_code.specs.Instructions.{temp_of, pass_items, take_items, result_items, byte_items, put_char_items, exit_call_items, builtin_items, call_items, return_items, selected_insn}
use Rattle.selection_code.specs.Functions.{selected_insns, parameter_items, in_front, selected_blocks}
use Rattle.selection_bounds.specs.selection_costs.Costs.{CodeIsShort}

-- ---- instructions

near_short : (ty : MemoryType) (d p : ℕ) (plus : ℤ) → length (near_load ty d p plus) ≤ 2
near_short S8 d p plus = omega arith
near_short U8 d p plus = omega arith
near_short S16 d p plus = omega arith
near_short U16 d p plus = omega arith
near_short S32 d p plus = omega arith
near_short U32 d p plus = omega arith
near_short S64 d p plus = omega arith
near_short U64 d p plus = omega arith
near_short P64 d p plus = omega arith

far_short : (p : ℕ) (plus : ℤ) → length (far_items p plus) ≤ 6
far_short p plus = omega (arith, length-append (constant_items 0 (word_from plus)) (Operate Addq 0 (source.Temp p) (operand.Temp 0) ∷ []), making.short 0 (word_from plus))

load_short : (ty : MemoryType) (d p : ℕ) (plus : ℤ) → length (load_items ty d p plus) ≤ 8
load_short ty d p plus = by_fit (fits_signed w16 plus)
  where
    by_fit : (b : Bool) → length (load_by ty d p plus (if b then Some plus else None)) ≤ 8
    by_fit true = omega (arith, near_short ty d p plus)
    by_fit false = omega (arith, length-append (far_items p plus) (near_load ty d 0 (pos 0)), far_short p plus, near_short ty d 0 (pos 0))

store_short : (ty : MemoryType) (p : ℕ) (plus : ℤ) (a : ℕ) → length (store_items ty p plus a) ≤ 8
store_short ty p plus a = by_fit (fits_signed w16 plus)
  where
    by_fit : (b : Bool) → length (store_by ty p plus a (if b then Some plus else None)) ≤ 8
    by_fit true = omega arith
    by_fit false = omega (arith, length-append (far_items p plus) (near_store ty a 0 (pos 0)), far_short p plus)

binary_short : (op : VmBinaryOp) (ty : VmType) (d a b : ℕ) → length (binary_items op ty d a b) ≤ most_binary_insns op
binary_short Add ty d a b = omega arith
binary_short Subtract ty d a b = omega arith
binary_short Multiply ty d a b = omega arith
binary_short Divide ty d a b = omega arith
binary_short Remainder ty d a b = omega arith
binary_short And ty d a b = omega arith
binary_short Or ty d a b = omega arith
binary_short ExclusiveOr ty d a b = omega arith

left_short : (narrow : Bool) (d a b : ℕ) → length (left_items narrow d a b) ≤ 3
left_short true d a b = omega arith
left_short false d a b = omega arith

right_short : (narrow : Bool) (d a b : ℕ) → length (logical_right_items narrow d a b) ≤ 3
right_short true d a b = omega arith
right_short false d a b = omega arith

shift_short : (op : ShiftOp) (ty : VmType) (d a b : ℕ) → length (shift_items op ty d a b) ≤ 3
shift_short ArithmeticRight ty d a b = omega arith
shift_short Left ty d a b = left_short (is_narrow ty) d a b
shift_short LogicalRight ty d a b = right_short (is_narrow ty) d a b

compare_short : (op : CompareOp) (ty : VmType) (d a b : ℕ) → length (compare_items op ty d a b) ≤ 2
compare_short Equal ty d a b = omega arith
compare_short NotEqual ty d a b = omega arith
compare_short Less ty d a b = omega arith
compare_short LessOrEqual ty d a b = omega arith

length-pass : (k : ℕ) (arguments : List ℕ) → length (pass_items k arguments) ≡ length arguments
length-pass k [] = refl
length-pass k (a ∷ arguments) = ap suc (length-pass (suc k) arguments)

result_short : (d : Option ℕ) → length (result_items d) ≤ 1
result_short None = omega arith
result_short (Some d) = omega arith

byte_short : (d : Option ℕ) (a : ℕ) → length (byte_items d a) ≤ 1
byte_short None a = omega arith
byte_short (Some d) a = omega arith

put_char_short : (d : Option ℕ) (arguments : List ℕ) → length (put_char_items d arguments) ≤ 4
put_char_short d [] = omega arith
put_char_short d (a ∷ arguments) = omega (arith, byte_short d a)

exit_short : (arguments : List ℕ) → length (exit_call_items arguments) ≤ 4
exit_short [] = omega arith
exit_short (a ∷ arguments) = omega arith

builtin_short : (d : Option ℕ) (b : VmBuiltin) (arguments : List ℕ) → length (builtin_items d b arguments) ≤ 4
builtin_short d PutChar arguments = put_char_short d arguments
builtin_short d GetChar arguments = omega (arith, result_short d)
builtin_short d Abort arguments = omega arith
builtin_short d Exit arguments = exit_short arguments

call_short : (d : Option ℕ) (c : VmCallee) (arguments : List ℕ) → length (call_items d c arguments) ≤ 4 + length arguments
call_short d (callee.Function k) arguments = omega (arith, length-append (pass_items 0 arguments) (Call k (length arguments) ∷ result_items d), length-pass 0 arguments, result_short d)
call_short d (callee.Builtin b) arguments = omega (arith, builtin_short d b arguments)

return_short : (value : Option TypedRegister) → length (return_items value) ≤ 2
return_short None = omega arith
return_short (Some value) = omega arith

pub insn_short : (y : VmInsn) → length (selected_insn y) ≤ most_insns y
insn_short (x.LoadConstant ty d word) = omega (arith, making.short (temp_of d) word)
insn_short (x.LoadAddress d place plus) = omega arith
insn_short (x.Load ty d p plus) = omega (arith, load_short ty (temp_of d) (temp_of p) plus)
insn_short (x.Store ty p plus a) = omega (arith, store_short ty (temp_of p) plus (temp_of a))
insn_short (x.Copy to from size align) = omega (arith, copies_short (temp_of to) (temp_of from) size align)
insn_short (x.Unary op ty d a) = omega arith
insn_short (x.Binary op ty d a b) = binary_short op ty (temp_of d) (temp_of a) (temp_of b)
insn_short (x.Shift op ty d a b) = omega (arith, shift_short op ty (temp_of d) (temp_of a) (temp_of b))
insn_short (x.Convert from to d a) = omega arith
insn_short (x.Compare op ty d a b) = omega (arith, compare_short op ty (temp_of d) (temp_of a) (temp_of b))
insn_short (x.Branch op ty a block) = omega arith
insn_short (x.Jump block) = omega arith
insn_short (x.Call d c arguments) = call_short d c arguments
insn_short (x.Return value) = omega (arith, return_short value)
insn_short x.Mark = omega arith
insn_short x.Nop = omega arith

few_insns : (op : VmBinaryOp) → most_binary_insns op ≤ 8
few_insns Add = omega arith
few_insns Subtract = omega arith
few_insns Multiply = omega arith
few_insns Divide = omega arith
few_insns Remainder = omega arith
few_insns And = omega arith
few_insns Or = omega arith
few_insns ExclusiveOr = omega arith

-- the most that an instruction becomes, by what counts for it
most_short : (y : VmInsn) → most_insns y ≤ 8 + 4 * weight_of y
most_short (x.LoadConstant ty d word) = omega arith
most_short (x.LoadAddress d place plus) = omega arith
most_short (x.Load ty d p plus) = omega arith
most_short (x.Store ty p plus a) = omega arith
most_short (x.Copy to from size align) = omega arith
most_short (x.Unary op ty d a) = omega arith
most_short (x.Binary op ty d a b) = omega (arith, few_insns op)
most_short (x.Shift op ty d a b) = omega arith
most_short (x.Convert from to d a) = omega arith
most_short (x.Compare op ty d a b) = omega arith
most_short (x.Branch op ty a block) = omega arith
most_short (x.Jump block) = omega arith
most_short (x.Call d c arguments) = omega arith
most_short (x.Return value) = omega arith
most_short x.Mark = omega arith
most_short x.Nop = omega arith

-- ---- blocks and functions

insns_short : (insns : List VmInsn) → length (selected_insns insns) ≤ 8 * length insns + 4 * sum_by weight_of insns
insns_short [] = omega arith
insns_short (y ∷ insns) = omega (arith, length-append (selected_insn y) (selected_insns insns), insn_short y, most_short y, insns_short insns, sum_by-cons weight_of y insns)

blocks_short : (blocks : List (List VmInsn)) → count_of (map selected_insns blocks) ≤ 8 * count_of blocks + 4 * sum_by (λ block. sum_by weight_of block) blocks
blocks_short [] = omega arith
blocks_short (block ∷ blocks) =
    omega (
      arith,
      insns_short block,
      blocks_short blocks,
      sum_by-cons (λ (b : List TempInsn). length b) (selected_insns block) (map selected_insns blocks),
      sum_by-cons (λ (b : List VmInsn). length b) block blocks,
      sum_by-cons (λ b. sum_by weight_of b) block blocks,
    )

front_short : (xs : List TempInsn) (blocks : List (List TempInsn)) → count_of (in_front xs blocks) ≤ length xs + count_of blocks
front_short xs [] = omega arith
front_short xs (block ∷ blocks) =
    omega (arith, length-append xs block, sum_by-cons (λ (b : List TempInsn). length b) (xs ++ block) blocks, sum_by-cons (λ (b : List TempInsn). length b) block blocks)

length-front : (xs : List TempInsn) (blocks : List (List TempInsn)) → length (in_front xs blocks) ≡ length blocks
length-front xs [] = refl
length-front xs (block ∷ blocks) = refl

pub length-take_items : (k count : ℕ) → length (take_items k count) ≡ count
length-take_items k zero = refl
length-take_items k (suc count) = ap suc (length-take_items (suc k) count)

pub code_short : CodeIsShort
code_short f = record {
  blocks = same;
  count = omega (arith, same, front_short (parameter_items f.params) (map selected_insns f.blocks), blocks_short f.blocks, length-take_items 0 f.params);
}
  where
    same : length (selected_blocks f.params f.blocks) ≡ length f.blocks
    same = length-front (parameter_items f.params) (map selected_insns f.blocks) ∙ length-map f.blocks selected_insns
