-- Which temporaries each instruction reads and writes, where it goes, and whether it may trap.
use Rattle.std.specs.Prelude.{ℕ, zero, Bool, true, false, List, [], ◌∷◌, ◌++◌}
use Rattle.temp_ir.specs.declared.operation.Operation.{Operation}
use Rattle.temp_ir.specs.declared.operation.Operation.TheVariants.{AddlV, SublV, AddqV, SubqV, MullV, MulqV}
use Rattle.temp_ir.specs.declared.operation.Service.{Service}
use Rattle.temp_ir.specs.declared.operation.Service.TheVariants.{Trap}
use Rattle.temp_ir.specs.declared.insn.FirstOperand.{FirstOperand}
use Rattle.temp_ir.specs.declared.insn.FirstOperand.TheVariants as source
use Rattle.temp_ir.specs.declared.insn.SecondOperand.{SecondOperand}
use Rattle.temp_ir.specs.declared.insn.SecondOperand.TheVariants as operand
use Rattle.temp_ir.specs.declared.insn.TempInsn.{TempInsn}
use Rattle.temp_ir.specs.declared.insn.TempInsn.TheVariants.{Address, ObjectAddress, Load, Store, Operate, Extend, ToFixed, FromFixed, SetFixed, WriteArgument, ReadArgument, Branch, Jump, Call, Divide, Serve, Return, Mark}

-- the temporary of an operand, if it is one
abbrev pub source_reads : FirstOperand → List ℕ
source_reads source.Zero = []
source_reads (source.Temp t) = t ∷ []

abbrev pub operand_reads : SecondOperand → List ℕ
operand_reads (operand.Temp t) = t ∷ []
operand_reads (operand.Literal n) = []

-- the temporaries that an instruction reads, in the order in which its text has them
abbrev pub reads_of : TempInsn → List ℕ
reads_of (Address op destination base plus) = source_reads base
reads_of (ObjectAddress destination place plus) = []
reads_of (Load op destination pointer plus) = pointer ∷ []
reads_of (Store op value pointer plus) = source_reads value ++ pointer ∷ []
reads_of (Operate op destination left right) = source_reads left ++ operand_reads right
reads_of (Extend op destination source) = operand_reads source
reads_of (ToFixed register source) = source ∷ []
reads_of (FromFixed destination register) = []
reads_of (SetFixed register number) = []
reads_of (WriteArgument number source) = source ∷ []
reads_of (ReadArgument destination number) = []
reads_of (Branch op source block) = source ∷ []
reads_of (Jump block) = []
reads_of (Call function arguments) = []
reads_of (Divide routine) = []
reads_of (Serve service) = []
reads_of (Return with_value) = []
reads_of Mark = []

-- the temporary that an instruction writes, if it writes one
abbrev pub writes_of : TempInsn → List ℕ
writes_of (Address op destination base plus) = destination ∷ []
writes_of (ObjectAddress destination place plus) = destination ∷ []
writes_of (Load op destination pointer plus) = destination ∷ []
writes_of (Store op value pointer plus) = []
writes_of (Operate op destination left right) = destination ∷ []
writes_of (Extend op destination source) = destination ∷ []
writes_of (ToFixed register source) = []
writes_of (FromFixed destination register) = destination ∷ []
writes_of (SetFixed register number) = []
writes_of (WriteArgument number source) = []
writes_of (ReadArgument destination number) = destination ∷ []
writes_of (Branch op source block) = []
writes_of (Jump block) = []
writes_of (Call function arguments) = []
writes_of (Divide routine) = []
writes_of (Serve service) = []
writes_of (Return with_value) = []
writes_of Mark = []

-- the block that an instruction may go to, if it may go to one
abbrev pub targets_of : TempInsn → List ℕ
targets_of (Branch op source block) = block ∷ []
targets_of (Jump block) = block ∷ []
targets_of _ = []

-- the jump to a block
abbrev pub jump_of : (block : ℕ) → TempInsn
jump_of block = Jump block

-- an instruction with another block as its only target
abbrev pub with_block : TempInsn → (k block : ℕ) → TempInsn
with_block (Branch op source old) zero block = Branch op source block
with_block (Jump old) zero block = Jump block
with_block i k block = i

-- what follows an instruction may be done after it
abbrev pub flows_on_of : TempInsn → Bool
flows_on_of (Jump block) = false
flows_on_of (Return with_value) = false
flows_on_of _ = true

-- the operations whose signed result has to fit
abbrev pub is_checked : Operation → Bool
is_checked AddlV = true
is_checked SublV = true
is_checked AddqV = true
is_checked SubqV = true
is_checked MullV = true
is_checked MulqV = true
is_checked _ = false

abbrev pub service_may_trap : Service → Bool
service_may_trap Trap = true
service_may_trap _ = false

-- an instruction may itself end the run by a trap
abbrev pub may_trap_of : TempInsn → Bool
may_trap_of (Operate op destination left right) = is_checked op
may_trap_of (Divide routine) = true
may_trap_of (Serve service) = service_may_trap service
may_trap_of _ = false
