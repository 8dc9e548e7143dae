-- An instruction with the registers that an allocation states for its temporaries: those that it reads, in order, then
-- those that it writes. So a temporary's number stands for a register.
use Rattle.std.specs.Prelude.{ℕ, ◌+◌, List, slice_index_or}
use Rattle.temp_ir.specs.declared.insn.FirstOperand.{FirstOperand}
use Rattle.temp_ir.specs.declared.insn.FirstOperand.TheVariants as source
use Rattle.temp_ir.specs.declared.insn.SecondOperand.{SecondOperand}
use Rattle.temp_ir.specs.declared.insn.SecondOperand.TheVariants as operand
use Rattle.temp_ir.specs.declared.insn.TempInsn.{TempInsn}
use Rattle.temp_ir.specs.declared.insn.TempInsn.TheVariants.{Address, ObjectAddress, Load, Store, Operate, Extend, ToFixed, FromFixed, SetFixed, WriteArgument, ReadArgument, Branch, Jump, Call, Divide, Serve, Return, Mark}

-- the register with a number in the list, or 0 where there is none
abbrev pub register_at : (registers : List ℕ) → (k : ℕ) → ℕ
register_at registers k = slice_index_or registers k 0

-- how many temporaries an operand is
abbrev pub source_count : FirstOperand → ℕ
source_count source.Zero = 0
source_count (source.Temp t) = 1

abbrev pub operand_count : SecondOperand → ℕ
operand_count (operand.Temp t) = 1
operand_count (operand.Literal n) = 0

-- an operand, of which the register stands at a place of the list
abbrev pub source_in : (registers : List ℕ) → (k : ℕ) → FirstOperand → FirstOperand
source_in registers k source.Zero = source.Zero
source_in registers k (source.Temp t) = source.Temp (register_at registers k)

abbrev pub operand_in : (registers : List ℕ) → (k : ℕ) → SecondOperand → SecondOperand
operand_in registers k (operand.Temp t) = operand.Temp (register_at registers k)
operand_in registers k (operand.Literal n) = operand.Literal n

abbrev pub with_stated_registers : (registers : List ℕ) → TempInsn → TempInsn
with_stated_registers registers (Address op destination base plus) =
    Address op (register_at registers (source_count base)) (source_in registers 0 base) plus
with_stated_registers registers (ObjectAddress destination place plus) =
    ObjectAddress (register_at registers 0) place plus
with_stated_registers registers (Load op destination pointer plus) =
    Load op (register_at registers 1) (register_at registers 0) plus
with_stated_registers registers (Store op value pointer plus) =
    Store op (source_in registers 0 value) (register_at registers (source_count value)) plus
with_stated_registers registers (Operate op destination left right) =
    Operate op (register_at registers (source_count left + operand_count right)) (source_in registers 0 left)
    (operand_in registers (source_count left) right)
with_stated_registers registers (Extend op destination source) =
    Extend op (register_at registers (operand_count source)) (operand_in registers 0 source)
with_stated_registers registers (ToFixed register source) = ToFixed register (register_at registers 0)
with_stated_registers registers (FromFixed destination register) = FromFixed (register_at registers 0) register
with_stated_registers registers (WriteArgument number source) = WriteArgument number (register_at registers 0)
with_stated_registers registers (ReadArgument destination number) = ReadArgument (register_at registers 0) number
with_stated_registers registers (Branch op source block) = Branch op (register_at registers 0) block
with_stated_registers registers (SetFixed register number) = SetFixed register number
with_stated_registers registers (Jump block) = Jump block
with_stated_registers registers (Call function arguments) = Call function arguments
with_stated_registers registers (Divide routine) = Divide routine
with_stated_registers registers (Serve service) = Serve service
with_stated_registers registers (Return with_value) = Return with_value
with_stated_registers registers Mark = Mark
