-- What each instruction reads, writes and goes to.
use Rattle.std.specs.Prelude.{ℕ, zero, Bool, true, false, List, [], ◌∷◌, Option, Some, None}
use Rattle.suifvm_ir.specs.declared.types.VmType.{VmType}
use Rattle.suifvm_ir.specs.declared.types.VmType.TheVariants.{S32, U32, S64, U64, P64}
use Rattle.suifvm_ir.specs.declared.insn.VmUnaryOp.{VmUnaryOp}
use Rattle.suifvm_ir.specs.declared.insn.VmUnaryOp.TheVariants.{Move, Negate, Complement}
use Rattle.suifvm_ir.specs.declared.insn.VmBinaryOp.{VmBinaryOp}
use Rattle.suifvm_ir.specs.declared.insn.VmBinaryOp.TheVariants.{Add, Subtract, Multiply, Divide, Remainder, And, Or, ExclusiveOr}
use Rattle.suifvm_ir.specs.declared.insn.VmBuiltin.TheVariants.{Abort}
use Rattle.suifvm_ir.specs.declared.insn.VmCallee.{VmCallee}
use Rattle.suifvm_ir.specs.declared.insn.VmCallee.TheVariants.{Builtin}
use Rattle.suifvm_ir.specs.declared.insn.TypedRegister.{TypedRegister}
use Rattle.suifvm_ir.specs.declared.insn.VmInsn.{VmInsn}
use Rattle.suifvm_ir.specs.declared.insn.VmInsn.TheVariants.{LoadConstant, LoadAddress, Load, Store, Copy, Unary, Binary, Shift, Convert, Compare, Branch, Jump, Call, Return, Mark, Nop}

-- the register that is named, if one is
abbrev pub named_register : Option ℕ → List ℕ
named_register None = []
named_register (Some register) = register ∷ []

abbrev pub returned_register : Option TypedRegister → List ℕ
returned_register None = []
returned_register (Some value) = value.register ∷ []

-- the registers that an instruction reads, in order
abbrev pub reads_of : VmInsn → List ℕ
reads_of (LoadConstant ty destination word) = []
reads_of (LoadAddress destination place plus) = []
reads_of (Load ty destination pointer plus) = pointer ∷ []
reads_of (Store ty pointer plus value) = pointer ∷ value ∷ []
reads_of (Copy to from size align) = to ∷ from ∷ []
reads_of (Unary op ty destination source) = source ∷ []
reads_of (Binary op ty destination left right) = left ∷ right ∷ []
reads_of (Shift op ty destination source count) = source ∷ count ∷ []
reads_of (Convert from to destination source) = source ∷ []
reads_of (Compare op ty destination left right) = left ∷ right ∷ []
reads_of (Branch op ty source block) = source ∷ []
reads_of (Jump block) = []
reads_of (Call destination callee arguments) = arguments
reads_of (Return value) = returned_register value
reads_of Mark = []
reads_of Nop = []

-- the register that an instruction writes, if it writes one
abbrev pub writes_of : VmInsn → List ℕ
writes_of (LoadConstant ty destination word) = destination ∷ []
writes_of (LoadAddress destination place plus) = destination ∷ []
writes_of (Load ty destination pointer plus) = destination ∷ []
writes_of (Store ty pointer plus value) = []
writes_of (Copy to from size align) = []
writes_of (Unary op ty destination source) = destination ∷ []
writes_of (Binary op ty destination left right) = destination ∷ []
writes_of (Shift op ty destination source count) = destination ∷ []
writes_of (Convert from to destination source) = destination ∷ []
writes_of (Compare op ty destination left right) = destination ∷ []
writes_of (Branch op ty source block) = []
writes_of (Jump block) = []
writes_of (Call destination callee arguments) = named_register destination
writes_of (Return value) = []
writes_of Mark = []
writes_of Nop = []

-- the block that an instruction may go to, if it may go to one
abbrev pub targets_of : VmInsn → List ℕ
targets_of (Branch op ty source block) = block ∷ []
targets_of (Jump block) = block ∷ []
targets_of _ = []

-- the jump to a block
abbrev pub jump_of : (block : ℕ) → VmInsn
jump_of block = Jump block

-- an instruction with another block as its only target
abbrev pub with_block : VmInsn → (k block : ℕ) → VmInsn
with_block (Branch op ty source old) zero block = Branch op ty source block
with_block (Jump old) zero block = Jump block
with_block i k block = i

-- what follows an instruction may be done after it
abbrev pub flows_on_of : VmInsn → Bool
flows_on_of (Jump block) = false
flows_on_of (Return value) = false
flows_on_of _ = true

abbrev pub is_signed : VmType → Bool
is_signed S32 = true
is_signed U32 = false
is_signed S64 = true
is_signed U64 = false
is_signed P64 = false

abbrev pub unary_may_trap : VmUnaryOp → VmType → Bool
unary_may_trap Move ty = false
unary_may_trap Negate ty = is_signed ty
unary_may_trap Complement ty = false

abbrev pub binary_may_trap : VmBinaryOp → VmType → Bool
binary_may_trap Add ty = is_signed ty
binary_may_trap Subtract ty = is_signed ty
binary_may_trap Multiply ty = is_signed ty
binary_may_trap Divide ty = true
binary_may_trap Remainder ty = true
binary_may_trap And ty = false
binary_may_trap Or ty = false
binary_may_trap ExclusiveOr ty = false

abbrev pub call_may_trap : VmCallee → Bool
call_may_trap (Builtin Abort) = true
call_may_trap _ = false

-- an instruction may itself end the run by a trap
abbrev pub may_trap_of : VmInsn → Bool
may_trap_of (Unary op ty destination source) = unary_may_trap op ty
may_trap_of (Binary op ty destination left right) = binary_may_trap op ty
may_trap_of (Call destination callee arguments) = call_may_trap callee
may_trap_of _ = false
