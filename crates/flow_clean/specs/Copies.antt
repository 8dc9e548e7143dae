-- Instructions that read a register in place of a copy of it.
use Rattle.std.specs.Prelude.{◌≡◌, ℕ, ◌==◌, List, [], ◌∷◌, map, All, Option, Some, None, if◌then◌else◌}
use Rattle.mem_model.specs.World.{World, Rooms}
use Rattle.mem_model.specs.Ending.{Ending, IsDefined}
use Rattle.machine_model.specs.Machine.{Over}
use Rattle.suifvm_ir.specs.declared.insn.VmUnaryOp.TheVariants.{Move}
use Rattle.suifvm_ir.specs.declared.insn.TypedRegister.{TypedRegister}
use Rattle.suifvm_ir.specs.declared.insn.VmInsn.{VmInsn}
use Rattle.suifvm_ir.specs.declared.insn.VmInsn.TheVariants.{LoadConstant, LoadAddress, Load, Store, Copy, Unary, Binary, Shift, Convert, Compare, Branch, Jump, Call, Return, Mark, Nop}
use Rattle.suifvm_ir.specs.Insns.{reads_of, writes_of}
use Rattle.suifvm_ir.specs.Programs.{VmFunction}
use Rattle.suifvm_meaning.specs.Behave.{FunctionCode, vm_run}
use Rattle.flow_clean.specs.Chains.{GoesBackToMarks}

abbrev pub with_returned : (ℕ → ℕ) → Option TypedRegister → Option TypedRegister
with_returned names None = None
with_returned names (Some value) = Some (record { ty = value.ty; register = names value.register })

-- an instruction that reads other registers, and else is the same
abbrev pub with_reads : (names : ℕ → ℕ) → VmInsn → VmInsn
with_reads names (LoadConstant ty destination word) = LoadConstant ty destination word
with_reads names (LoadAddress destination place plus) = LoadAddress destination place plus
with_reads names (Load ty destination pointer plus) = Load ty destination (names pointer) plus
with_reads names (Store ty pointer plus value) = Store ty (names pointer) plus (names value)
with_reads names (Copy to from size align) = Copy (names to) (names from) size align
with_reads names (Unary op ty destination source) = Unary op ty destination (names source)
with_reads names (Binary op ty destination left right) = Binary op ty destination (names left) (names right)
with_reads names (Shift op ty destination source count) = Shift op ty destination (names source) (names count)
with_reads names (Convert from to destination source) = Convert from to destination (names source)
with_reads names (Compare op ty destination left right) = Compare op ty destination (names left) (names right)
with_reads names (Branch op ty source block) = Branch op ty (names source) block
with_reads names (Jump block) = Jump block
with_reads names (Call destination callee arguments) = Call destination callee (map names arguments)
with_reads names (Return value) = Return (with_returned names value)
with_reads names Mark = Mark
with_reads names Nop = Nop

-- the register of which a register is a copy that an instruction writes: itself, unless the instruction is a move
abbrev pub move_source : VmInsn → (register : ℕ) → ℕ
move_source (Unary Move ty destination source) register = source
move_source _ register = register

-- The register of which each is a copy at a place of a block, and itself where of no other: that of the last write of
-- it, if that is a move of another register which was not written since. This is how it is behind a write of a register
-- that makes that one a copy of a source
abbrev pub behind_write : (origins : ℕ → ℕ) → (register source : ℕ) → ℕ → ℕ
behind_write origins register source k =
    if k == register then source else (if origins k == register then k else origins k)

abbrev pub behind_writes : (origins : ℕ → ℕ) → VmInsn → (registers : List ℕ) → ℕ → ℕ
behind_writes origins i [] = origins
behind_writes origins i (register ∷ registers) =
    behind_writes (behind_write origins register (move_source i register)) i registers

-- how it is behind an instruction
abbrev pub behind : (origins : ℕ → ℕ) → VmInsn → ℕ → ℕ
behind origins i = behind_writes origins i (writes_of i)

-- at the top of a block no register is a copy of another one
abbrev pub no_copies : ℕ → ℕ
no_copies k = k

-- instructions that read origins in place of copies
abbrev pub without_copies : (origins : ℕ → ℕ) → List VmInsn → List VmInsn
without_copies origins [] = []
without_copies origins (i ∷ insns) =
    with_reads origins i ∷ without_copies (behind origins (with_reads origins i)) insns

-- no instruction reads a register which is a copy of another one
abbrev pub ReadsNoCopy : (origins : ℕ → ℕ) → List VmInsn → Type 0
ReadsNoCopy origins [] = Unit {0}
ReadsNoCopy origins (i ∷ insns) =
    All (λ register. origins register ≡ register) (reads_of i) × ReadsNoCopy (behind origins i) insns

abbrev pub AreWithoutCopies : (before after : List (List VmInsn)) → Type 0
AreWithoutCopies before after = after ≡ map (without_copies no_copies) before

-- what local_copies makes of a function
pub record IsWithoutCopiesOf (f g : VmFunction) : Type 0 where
  pub name : g.name ≡ f.name
  pub params : g.params ≡ f.params
  pub temps : g.temps ≡ f.temps
  pub objects : g.objects ≡ f.objects
  pub blocks : AreWithoutCopies f.blocks g.blocks
  pub reads : All (ReadsNoCopy no_copies) g.blocks
  pub marks : GoesBackToMarks g.blocks

-- functions by number, of which the second ones read no copies
pub data FunctionsAreWithoutCopies : (before after : List FunctionCode) → Type 0 where
  NoFunction : FunctionsAreWithoutCopies [] []
  Function : {fs gs : List FunctionCode} → (f g : FunctionCode) → g.sizes ≡ f.sizes →
      AreWithoutCopies f.blocks g.blocks → FunctionsAreWithoutCopies fs gs →
      FunctionsAreWithoutCopies (f ∷ fs) (g ∷ gs)

-- a run that ends with a meaning ends so too, in the same world
abbrev pub ReadingOriginsKeepsRuns : Type 0
ReadingOriginsKeepsRuns =
    (rooms : Rooms) (fs gs : List FunctionCode) → FunctionsAreWithoutCopies fs gs →
    (main : ℕ) (w : World) (steps : ℕ) (e : Ending) → IsDefined e → vm_run rooms fs main w steps ≡ Over e →
    (fewer : ℕ) × (vm_run rooms gs main w fewer ≡ Over e)
