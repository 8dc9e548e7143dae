-- Instructions apart from their temporaries, and which of them do nothing but write one.
use Rattle.std.specs.Prelude.{ℕ, not, Bool, true, false, slice_get, Option}
use Rattle.temp_ir.specs.declared.operation.Operation.TheVariants.{Bis}
use Rattle.temp_ir.specs.declared.insn.FirstOperand.{FirstOperand}
use Rattle.temp_ir.specs.declared.insn.FirstOperand.TheVariants as source
use Rattle.temp_ir.specs.declared.insn.SecondOperand.{SecondOperand}
use Rattle.temp_ir.specs.declared.insn.SecondOperand.TheVariants as operand
use Rattle.temp_ir.specs.declared.insn.TempInsn.{TempInsn}
use Rattle.temp_ir.specs.declared.insn.TempInsn.TheVariants.{Address, ObjectAddress, Load, Store, Operate, Extend, ToFixed, FromFixed, SetFixed, WriteArgument, ReadArgument, Branch, Jump, Call, Divide, Serve, Return, Mark}
use Rattle.temp_ir.specs.Insns.{writes_of, is_checked}

-- an operand with temporary 0 in the place of its own
abbrev pub first_form : FirstOperand → FirstOperand
first_form source.Zero = source.Zero
first_form (source.Temp t) = source.Temp 0

abbrev pub second_form : SecondOperand → SecondOperand
second_form (operand.Temp t) = operand.Temp 0
second_form (operand.Literal n) = operand.Literal n

-- an instruction with temporary 0 in the place of each of its own
abbrev pub form_of : TempInsn → TempInsn
form_of (Address op destination base plus) = Address op 0 (first_form base) plus
form_of (ObjectAddress destination place plus) = ObjectAddress 0 place plus
form_of (Load op destination pointer plus) = Load op 0 0 plus
form_of (Store op value pointer plus) = Store op (first_form value) 0 plus
form_of (Operate op destination left right) = Operate op 0 (first_form left) (second_form right)
form_of (Extend op destination source) = Extend op 0 (second_form source)
form_of (ToFixed register source) = ToFixed register 0
form_of (FromFixed destination register) = FromFixed 0 register
form_of (SetFixed register number) = SetFixed register number
form_of (WriteArgument number source) = WriteArgument number 0
form_of (ReadArgument destination number) = ReadArgument 0 number
form_of (Branch op source block) = Branch op 0 block
form_of (Jump block) = Jump block
form_of (Call function arguments) = Call function arguments
form_of (Divide routine) = Divide routine
form_of (Serve service) = Serve service
form_of (Return with_value) = Return with_value
form_of Mark = Mark

-- the temporary that an instruction writes, if it writes one
abbrev pub write_of : TempInsn → Option ℕ
write_of x = slice_get (writes_of x) 0

-- nothing but the write of a temporary comes of it, unless it has no meaning: it does not trap, load or take a turn
abbrev pub is_pure : TempInsn → Bool
is_pure (Address op destination base plus) = true
is_pure (ObjectAddress destination place plus) = true
is_pure (Operate op destination left right) = not (is_checked op)
is_pure (Extend op destination source) = true
is_pure (FromFixed destination register) = true
is_pure (ReadArgument destination number) = true
is_pure _ = false

-- the copy of a temporary into another one
abbrev pub copy_of : (destination source : ℕ) → TempInsn
copy_of d s = Operate Bis d source.Zero (operand.Temp s)
