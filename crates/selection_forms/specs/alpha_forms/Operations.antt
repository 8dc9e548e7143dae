-- The code of operations on the values of registers. The temporaries d, a and b are those of the register that is
-- written and of those that are read. What has no meaning, as a product of pointers, has some code too.
use Rattle.std.specs.Prelude.{ℕ, List, [], ◌∷◌, Bool, true, false}
use Rattle.suifvm_ir.specs.declared.types.VmType.{VmType}
use Rattle.suifvm_ir.specs.declared.types.VmType.TheVariants.{S32, U32, S64, U64, P64}
use Rattle.suifvm_ir.specs.declared.types.MemoryType.{MemoryType}
use Rattle.suifvm_ir.specs.declared.types.MemoryType.TheVariants as m
use Rattle.suifvm_ir.specs.declared.insn.VmUnaryOp.{VmUnaryOp}
use Rattle.suifvm_ir.specs.declared.insn.VmUnaryOp.TheVariants.{Move, Negate, Complement}
use Rattle.suifvm_ir.specs.declared.insn.VmBinaryOp.{VmBinaryOp}
use Rattle.suifvm_ir.specs.declared.insn.VmBinaryOp.TheVariants.{Add, Subtract, Multiply, Divide, Remainder, And, Or, ExclusiveOr}
use Rattle.suifvm_ir.specs.declared.insn.ShiftOp.{ShiftOp}
use Rattle.suifvm_ir.specs.declared.insn.ShiftOp.TheVariants.{ArithmeticRight, Left, LogicalRight}
use Rattle.suifvm_ir.specs.declared.insn.CompareOp.{CompareOp}
use Rattle.suifvm_ir.specs.declared.insn.CompareOp.TheVariants.{Equal, NotEqual, Less, LessOrEqual}
use Rattle.suifvm_ir.specs.declared.insn.VmBranchOp as vm
use Rattle.suifvm_ir.specs.declared.insn.VmBranchOp.TheVariants.{IfTrue, IfFalse}
use Rattle.temp_ir.specs.declared.operation.TempBranchOp.{TempBranchOp}
use Rattle.temp_ir.specs.declared.operation.TempBranchOp.TheVariants.{Beq, Bne}
use Rattle.temp_ir.specs.declared.operation.Operation.{Operation}
use Rattle.temp_ir.specs.declared.operation.Operation.TheVariants as o
use Rattle.temp_ir.specs.declared.operation.ExtendOp.TheVariants.{Sextb, Sextw}
use Rattle.temp_ir.specs.declared.operation.DivisionRoutine.{DivisionRoutine}
use Rattle.temp_ir.specs.declared.operation.DivisionRoutine.TheVariants.{Divq, Remq, Divqu, Remqu, Divl, Reml, Divlu, Remlu}
use Rattle.temp_ir.specs.declared.insn.FixedRegister.TheVariants.{Dividend, Divisor, Answer}
use Rattle.temp_ir.specs.declared.insn.FirstOperand.TheVariants as source
use Rattle.temp_ir.specs.declared.insn.SecondOperand.TheVariants as operand
use Rattle.temp_ir.specs.declared.insn.TempInsn.{TempInsn}
use Rattle.temp_ir.specs.declared.insn.TempInsn.TheVariants.{Operate, Extend, ToFixed, FromFixed, Divide}

-- an operation on two temporaries, on a temporary and a number, and on zero and a temporary
abbrev pub on_two : Operation → (d a b : ℕ) → TempInsn
on_two op d a b = Operate op d (source.Temp a) (operand.Temp b)

abbrev pub on_literal : Operation → (d a number : ℕ) → TempInsn
on_literal op d a number = Operate op d (source.Temp a) (operand.Literal number)

abbrev pub on_zero : Operation → (d a : ℕ) → TempInsn
on_zero op d a = Operate op d source.Zero (operand.Temp a)

-- the low 32 bits of a temporary with their sign above them
abbrev pub extended_long : (d a : ℕ) → TempInsn
extended_long d a = on_literal o.Addl d a 0

-- a type has 4 bytes
abbrev pub is_narrow : VmType → Bool
is_narrow S32 = true
is_narrow U32 = true
is_narrow _ = false

-- ---- one operand

abbrev pub difference_op : VmType → Operation
difference_op S32 = o.SublV
difference_op U32 = o.Subl
difference_op S64 = o.SubqV
difference_op U64 = o.Subq
difference_op P64 = o.Subq

abbrev pub unary_op : VmUnaryOp → VmType → Operation
unary_op Move ty = o.Bis
unary_op Negate ty = difference_op ty
unary_op Complement ty = o.Ornot

abbrev pub unary_items : VmUnaryOp → VmType → (d a : ℕ) → List TempInsn
unary_items op ty d a = on_zero (unary_op op ty) d a ∷ []

-- ---- two operands

abbrev pub sum_op : VmType → Operation
sum_op S32 = o.AddlV
sum_op U32 = o.Addl
sum_op S64 = o.AddqV
sum_op U64 = o.Addq
sum_op P64 = o.Addq

abbrev pub product_op : VmType → Operation
product_op S32 = o.MullV
product_op U32 = o.Mull
product_op S64 = o.MulqV
product_op U64 = o.Mulq
product_op P64 = o.Mulq

abbrev pub quotient_routine : VmType → DivisionRoutine
quotient_routine S32 = Divl
quotient_routine U32 = Divlu
quotient_routine S64 = Divq
quotient_routine U64 = Divqu
quotient_routine P64 = Divqu

abbrev pub remainder_routine : VmType → DivisionRoutine
remainder_routine S32 = Reml
remainder_routine U32 = Remlu
remainder_routine S64 = Remq
remainder_routine U64 = Remqu
remainder_routine P64 = Remqu

abbrev pub division_items : DivisionRoutine → (d a b : ℕ) → List TempInsn
division_items routine d a b =
    ToFixed Dividend a ∷ ToFixed Divisor b ∷ Divide routine ∷ FromFixed d Answer ∷ []

abbrev pub binary_items : VmBinaryOp → VmType → (d a b : ℕ) → List TempInsn
binary_items Add ty d a b = on_two (sum_op ty) d a b ∷ []
binary_items Subtract ty d a b = on_two (difference_op ty) d a b ∷ []
binary_items Multiply ty d a b = on_two (product_op ty) d a b ∷ []
binary_items Divide ty d a b = division_items (quotient_routine ty) d a b
binary_items Remainder ty d a b = division_items (remainder_routine ty) d a b
binary_items And ty d a b = on_two o.And d a b ∷ []
binary_items Or ty d a b = on_two o.Bis d a b ∷ []
binary_items ExclusiveOr ty d a b = on_two o.Xor d a b ∷ []

-- ---- shifts: of a type of 4 bytes to the left the sign is made anew, to the right with zeros the low half is cut
-- first

abbrev pub left_items : (narrow : Bool) → (d a b : ℕ) → List TempInsn
left_items true d a b = on_two o.Sll 0 a b ∷ extended_long d 0 ∷ []
left_items false d a b = on_two o.Sll d a b ∷ []

abbrev pub logical_right_items : (narrow : Bool) → (d a b : ℕ) → List TempInsn
logical_right_items true d a b = on_literal o.Zapnot 0 a 15 ∷ on_two o.Srl 0 0 b ∷ extended_long d 0 ∷ []
logical_right_items false d a b = on_two o.Srl d a b ∷ []

abbrev pub shift_items : ShiftOp → VmType → (d a b : ℕ) → List TempInsn
shift_items ArithmeticRight ty d a b = on_two o.Sra d a b ∷ []
shift_items Left ty d a b = left_items (is_narrow ty) d a b
shift_items LogicalRight ty d a b = logical_right_items (is_narrow ty) d a b

-- ---- comparisons

abbrev pub is_unsigned : VmType → Bool
is_unsigned S32 = false
is_unsigned U32 = true
is_unsigned S64 = false
is_unsigned U64 = true
is_unsigned P64 = true

abbrev pub less_op : (unsigned : Bool) → Operation
less_op true = o.Cmpult
less_op false = o.Cmplt

abbrev pub less_or_equal_op : (unsigned : Bool) → Operation
less_or_equal_op true = o.Cmpule
less_or_equal_op false = o.Cmple

abbrev pub compare_items : CompareOp → VmType → (d a b : ℕ) → List TempInsn
compare_items Equal ty d a b = on_two o.Cmpeq d a b ∷ []
compare_items NotEqual ty d a b = on_two o.Cmpeq 0 a b ∷ on_literal o.Cmpeq d 0 0 ∷ []
compare_items Less ty d a b = on_two (less_op (is_unsigned ty)) d a b ∷ []
compare_items LessOrEqual ty d a b = on_two (less_or_equal_op (is_unsigned ty)) d a b ∷ []

-- ---- branches: Bne is taken where a value is neither zero nor null, and Beq where it is

abbrev pub temp_branch : vm.VmBranchOp → TempBranchOp
temp_branch IfTrue = Bne
temp_branch IfFalse = Beq

-- ---- conversions

-- the low 32 bits, with their sign above them where the result has 4 bytes, and zeros where it has 8
abbrev pub from_unsigned_item : (narrow : Bool) → (d a : ℕ) → TempInsn
from_unsigned_item true d a = extended_long d a
from_unsigned_item false d a = on_literal o.Zapnot d a 15

abbrev pub from_wide_item : (narrow : Bool) → (d a : ℕ) → TempInsn
from_wide_item true d a = extended_long d a
from_wide_item false d a = on_zero o.Bis d a

abbrev pub convert_item : MemoryType → VmType → (d a : ℕ) → TempInsn
convert_item m.S8 to d a = Extend Sextb d (operand.Temp a)
convert_item m.U8 to d a = on_literal o.Zapnot d a 1
convert_item m.S16 to d a = Extend Sextw d (operand.Temp a)
convert_item m.U16 to d a = on_literal o.Zapnot d a 3
convert_item m.S32 to d a = extended_long d a
convert_item m.U32 to d a = from_unsigned_item (is_narrow to) d a
convert_item m.S64 to d a = from_wide_item (is_narrow to) d a
convert_item m.U64 to d a = from_wide_item (is_narrow to) d a
convert_item m.P64 to d a = from_wide_item (is_narrow to) d a

abbrev pub convert_items : MemoryType → VmType → (d a : ℕ) → List TempInsn
convert_items from to d a = convert_item from to d a ∷ []
