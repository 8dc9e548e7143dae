-- The items of each instruction, on the registers that an allocation states for its temporaries.
use Rattle.std.specs.Prelude.{ℕ, ◌+◌, List, [], ◌∷◌, length, slice_index}
use Rattle.alpha_isa.specs.declared.insn.Fields.{Fields}
use Rattle.alpha_isa.specs.declared.insn.Fields.TheVariants as fields
use Rattle.alpha_isa.specs.declared.insn.Operand as isa
use Rattle.alpha_isa.specs.declared.insn.Operand.TheVariants as word
use Rattle.alpha_isa.specs.declared.insn.MemoryOp.TheVariants.{Lda}
use Rattle.alpha_isa.specs.declared.insn.BranchOp.TheVariants.{Br, Bsr}
use Rattle.alpha_items.specs.declared.item.AsmItem.{AsmItem}
use Rattle.alpha_items.specs.declared.item.AsmItem.TheVariants.{Plain, Branch, DataAddress}
use Rattle.alpha_rt.specs.Items.{entry_label}
use Rattle.suifvm_ir.specs.declared.insn.VmObject.TheVariants.{Global, Local}
use Rattle.temp_ir.specs.declared.operation.Service.{Service}
use Rattle.temp_ir.specs.declared.operation.Service.TheVariants.{Trap}
use Rattle.temp_ir.specs.declared.insn.FirstOperand.{FirstOperand}
use Rattle.temp_ir.specs.declared.insn.FirstOperand.TheVariants as source
use Rattle.temp_ir.specs.declared.insn.SecondOperand.{SecondOperand}
use Rattle.temp_ir.specs.declared.insn.SecondOperand.TheVariants as operand
use Rattle.temp_ir.specs.declared.insn.TempInsn.{TempInsn}
use Rattle.temp_ir.specs.declared.insn.TempInsn.TheVariants as i
use Rattle.temp_ir.specs.Insns.{reads_of}
use Rattle.temp_ir.specs.Fixed.{register_number}
use Rattle.temp_ir.specs.Operations.{address_op, load_op, store_op, branch_op, operate_op, extend_op}
use Rattle.alloc_model.specs.Effect.{right_index, routine_of}
use Rattle.frame_memory.specs.flat_frames.Shapes.{FrameShape, frame_size, argument_at, frame_object_at}
use Rattle.frame_steps.specs.frame_accesses.Items.{frame_load, frame_store, frame_address, register_move}

-- what the items of a function refer to: the shape of its frame, the labels of its blocks and of the part by which it
-- is left, and where each object of static storage begins in the data
pub record ItemSetting : Type 0 where
  pub shape : FrameShape
  pub block_label : (block : ℕ) → ℕ
  pub exit_label : ℕ
  pub global_at : (global : ℕ) → ℕ

-- the label at which a function with a number is entered
abbrev pub function_label : (number : ℕ) → ℕ
function_label number = 256 + number

-- the register of a first operand, and a second operand. Registers are stated for what an instruction reads, in order,
-- and then for what it writes
abbrev pub source_register : FirstOperand → (registers : List ℕ) → ℕ
source_register source.Zero registers = 31
source_register (source.Temp t) registers = slice_index registers 0

abbrev pub machine_operand : SecondOperand → (registers : List ℕ) → (number : ℕ) → isa.Operand
machine_operand (operand.Temp t) registers number = word.Reg (slice_index registers number)
machine_operand (operand.Literal n) registers number = word.Literal n

abbrev pub written_register : TempInsn → (registers : List ℕ) → ℕ
written_register x registers = slice_index registers (length (reads_of x))

-- a service, by its function of `call_pal`
abbrev pub service_function : Service → ℕ
service_function Trap = 0xAA
service_function _ = 0x83

abbrev pub plain_item : Fields → List AsmItem
plain_item insn = Plain insn ∷ []

abbrev pub insn_items : ItemSetting → (registers : List ℕ) → TempInsn → List AsmItem
insn_items g rs (i.Address op destination base plus) =
    plain_item (fields.Memory (address_op op) (written_register (i.Address op destination base plus) rs)
    (source_register base rs) plus)
insn_items g rs (i.ObjectAddress destination (Global k) plus) =
    DataAddress (slice_index rs 0) (g.global_at k + plus) ∷ []
insn_items g rs (i.ObjectAddress destination (Local k) plus) =
    frame_address (slice_index rs 0) (frame_object_at g.shape k + plus)
insn_items g rs (i.Load op destination pointer plus) =
    plain_item (fields.Memory (load_op op) (slice_index rs 1) (slice_index rs 0) plus)
insn_items g rs (i.Store op value pointer plus) =
    plain_item (fields.Memory (store_op op) (source_register value rs) (slice_index rs (right_index value)) plus)
insn_items g rs (i.Operate op destination left right) =
    plain_item (fields.Operate (operate_op op) (source_register left rs) (machine_operand right rs (right_index left))
    (written_register (i.Operate op destination left right) rs))
insn_items g rs (i.Extend op destination source) =
    plain_item (fields.Operate (extend_op op) 31 (machine_operand source rs 0)
    (written_register (i.Extend op destination source) rs))
insn_items g rs (i.ToFixed register source) = register_move (slice_index rs 0) (register_number register)
insn_items g rs (i.FromFixed destination register) = register_move (register_number register) (slice_index rs 0)
insn_items g rs (i.SetFixed register number) = plain_item (fields.Memory Lda (register_number register) 31 number)
insn_items g rs (i.WriteArgument number source) = frame_store (slice_index rs 0) (argument_at number)
insn_items g rs (i.ReadArgument destination number) =
    frame_load (slice_index rs 0) (frame_size g.shape + argument_at number)
insn_items g rs (i.Branch op source block) = Branch (branch_op op) (slice_index rs 0) (g.block_label block) ∷ []
insn_items g rs (i.Jump block) = Branch Br 31 (g.block_label block) ∷ []
insn_items g rs (i.Call function arguments) = Branch Bsr 26 (function_label function) ∷ []
insn_items g rs (i.Divide routine) = Branch Bsr 23 (entry_label (routine_of routine)) ∷ []
insn_items g rs (i.Serve service) = plain_item (fields.Pal (service_function service))
insn_items g rs (i.Return with_value) = Branch Br 31 g.exit_label ∷ []
insn_items g rs i.Mark = []
