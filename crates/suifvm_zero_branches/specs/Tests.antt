-- Branches that test a value in place of what a comparison of it with zero found.
use Rattle.std.specs.Prelude.{◌≡◌, ℕ, ◌==◌, ◌&&◌, not, List, [], ◌∷◌, map, if◌then◌else◌}
use Rattle.mem_model.specs.World.{World, Rooms}
use Rattle.mem_model.specs.Ending.{Ending, Undefined}
use Rattle.machine_model.specs.Machine.{Over}
use Rattle.suifvm_ir.specs.declared.types.VmType.{VmType}
use Rattle.suifvm_ir.specs.declared.types.VmType.TheVariants.{S32}
use Rattle.suifvm_ir.specs.declared.insn.CompareOp.{CompareOp}
use Rattle.suifvm_ir.specs.declared.insn.CompareOp.TheVariants.{NotEqual}
use Rattle.suifvm_ir.specs.declared.insn.VmInsn.{VmInsn}
use Rattle.suifvm_ir.specs.declared.insn.VmInsn.TheVariants.{LoadConstant, Compare, Branch}
use Rattle.suifvm_meaning.specs.Behave.{FunctionCode, vm_run}
use Rattle.suifvm_zero_branches.specs.declared.known.RegisterFact.{RegisterFact}
use Rattle.suifvm_zero_branches.specs.declared.known.RegisterFact.TheVariants.{Nothing, Zero, Tests}

-- behind a constant the register is zero, if that is the constant
abbrev pub after_constant : (destination word : ℕ) → RegisterFact
after_constant d word = if word == 0 then Zero d else Nothing

-- behind `sne` with a register that is zero, the result says whether the left operand is neither zero nor null
abbrev pub after_test : (zero : ℕ) → VmType → (destination left right : ℕ) → RegisterFact
after_test z ty d a b = if b == z && not (d == a) then Tests ty d a else Nothing

abbrev pub after_comparison : RegisterFact → CompareOp → VmType → (destination left right : ℕ) → RegisterFact
after_comparison (Zero z) NotEqual ty d a b = after_test z ty d a b
after_comparison k op ty d a b = Nothing

-- what is known behind an instruction
abbrev pub facts_after : RegisterFact → VmInsn → RegisterFact
facts_after k (LoadConstant ty d word) = after_constant d word
facts_after k (Compare op ty d a b) = after_comparison k op ty d a b
facts_after k i = Nothing

-- the type and the register that a branch on a register of a type tests, where this is known
abbrev pub tested_type : RegisterFact → VmType → (register : ℕ) → VmType
tested_type (Tests ty d a) S32 register = if register == d then ty else S32
tested_type k ty register = ty

-- the value where the register is its truth, or else the register
abbrev pub tested_value : (truth value register : ℕ) → ℕ
tested_value d a register = if register == d then a else register

abbrev pub tested_register : RegisterFact → VmType → (register : ℕ) → ℕ
tested_register (Tests ty d a) S32 register = tested_value d a register
tested_register k ty register = register

-- an instruction as it is done where this is known
abbrev pub tested_insn : RegisterFact → VmInsn → VmInsn
tested_insn k (Branch op ty source block) = Branch op (tested_type k ty source) (tested_register k ty source) block
tested_insn k i = i

abbrev pub tested_from : RegisterFact → List VmInsn → List VmInsn
tested_from k [] = []
tested_from k (i ∷ insns) = tested_insn k i ∷ tested_from (facts_after k i) insns

-- the instructions of a block, where nothing is known at its start
abbrev pub tested_block : List VmInsn → List VmInsn
tested_block insns = tested_from Nothing insns

abbrev pub tested_code : FunctionCode → FunctionCode
tested_code c = record { sizes = c.sizes; blocks = map tested_block c.blocks }

abbrev pub HasMeaning : Ending → Type 0
HasMeaning (Undefined w at) = ⊥
HasMeaning _ = Unit {0}

-- a run that ends with a meaning ends so too where branches test the values
abbrev pub TestsKeepRuns : Type 0
TestsKeepRuns =
    (rooms : Rooms) (fs : List FunctionCode) (main : ℕ) (w : World) (steps : ℕ) (e : Ending) → HasMeaning e →
    vm_run rooms fs main w steps ≡ Over e → vm_run rooms (map tested_code fs) main w steps ≡ Over e
