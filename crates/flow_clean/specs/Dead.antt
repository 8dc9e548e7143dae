-- Instructions that are left out because nothing reads what they write.
use Rattle.std.specs.Prelude.{◌≡◌, ◌≤◌, sum_by, ℕ, ◌==◌, ◌&&◌, ◌||◌, not, Bool, true, false, List, [], ◌∷◌, length, slice_get, All, Some, if◌then◌else◌}
use Rattle.std.specs.List.{list_any}
use Rattle.mem_model.specs.World.{World, Rooms}
use Rattle.mem_model.specs.Ending.{Ending, IsDefined}
use Rattle.machine_model.specs.Machine.{Over}
use Rattle.pass_core.specs.Functions.{EndsLate, count_of, edge_count}
use Rattle.bitvector_flow.specs.Flows.{has_at}
use Rattle.bitvector_flow.specs.Lives.{has_register, AreLive}
use Rattle.suifvm_ir.specs.declared.insn.VmUnaryOp.TheVariants.{Move}
use Rattle.suifvm_ir.specs.declared.insn.VmInsn.{VmInsn}
use Rattle.suifvm_ir.specs.declared.insn.VmInsn.TheVariants.{LoadConstant, LoadAddress, Load, Unary, Binary, Shift, Convert, Compare}
use Rattle.suifvm_ir.specs.Insns.{reads_of, writes_of, targets_of, flows_on_of, unary_may_trap, binary_may_trap}
use Rattle.suifvm_ir.specs.Programs.{VmFunction, function_size}
use Rattle.suifvm_ir.specs.Cost.{cost}
use Rattle.suifvm_meaning.specs.Behave.{FunctionCode, vm_run}
use Rattle.flow_clean.specs.Chains.{GoesBackToMarks}

-- an instruction does nothing but write a register, and may not trap
abbrev pub may_drop : VmInsn → Bool
may_drop (LoadConstant ty destination word) = true
may_drop (LoadAddress destination place plus) = true
may_drop (Load ty destination pointer plus) = true
may_drop (Unary op ty destination source) = not (unary_may_trap op ty)
may_drop (Binary op ty destination left right) = not (binary_may_trap op ty)
may_drop (Shift op ty destination source count) = true
may_drop (Convert from to destination source) = true
may_drop (Compare op ty destination left right) = true
may_drop _ = false

-- a register is read by instructions before they write it; or they do not write it, and it is live at the bottom
abbrev pub is_wanted : (bottom : ℕ → Bool) → List VmInsn → (register : ℕ) → Bool
is_wanted bottom [] register = bottom register
is_wanted bottom (i ∷ insns) register =
    has_register (reads_of i) register || (not (has_register (writes_of i) register) && is_wanted bottom insns register)

-- a move of a register to itself
abbrev pub is_self_move : VmInsn → Bool
is_self_move (Unary Move ty destination source) = destination == source
is_self_move _ = false

-- it may be left out where these registers are wanted behind it
abbrev pub is_unwanted : (wanted : ℕ → Bool) → VmInsn → Bool
is_unwanted wanted i = is_self_move i || (may_drop i && not (list_any wanted (writes_of i)))

-- it may be left out before these instructions
abbrev pub is_dead_write : (bottom : ℕ → Bool) → VmInsn → (behind : List VmInsn) → Bool
is_dead_write bottom i behind = is_unwanted (is_wanted bottom behind) i

-- the instructions of a block without those that are dead, from the last one on
abbrev pub cleaned : (bottom : ℕ → Bool) → List VmInsn → List VmInsn
cleaned bottom [] = []
cleaned bottom (i ∷ insns) =
    if is_dead_write bottom i (cleaned bottom insns) then cleaned bottom insns else i ∷ cleaned bottom insns

-- the second instructions are the first, but that some are left out that do nothing but write a register and may not trap
pub data IsThinned : (before after : List VmInsn) → Type 0 where
  Empty : IsThinned [] []
  Drops : {xs ys : List VmInsn} → (i : VmInsn) → may_drop i ≡ true → IsThinned xs ys → IsThinned (i ∷ xs) ys
  Keeps : {xs ys : List VmInsn} → (i : VmInsn) → IsThinned xs ys → IsThinned (i ∷ xs) (i ∷ ys)

-- none of these instructions is dead before those behind it
abbrev pub NoneIsDead : (bottom : ℕ → Bool) → List VmInsn → Type 0
NoneIsDead bottom [] = Unit {0}
NoneIsDead bottom (i ∷ insns) = (is_dead_write bottom i insns ≡ false) × NoneIsDead bottom insns

abbrev pub NoneIsLeftDead : Type 0
NoneIsLeftDead = (bottom : ℕ → Bool) (insns : List VmInsn) → NoneIsDead bottom (cleaned bottom insns)

-- no sum over the instructions of a block rises
abbrev pub NoSumRises : Type 0
NoSumRises =
    (measure : VmInsn → ℕ) (bottom : ℕ → Bool) (insns : List VmInsn) →
    sum_by measure (cleaned bottom insns) ≤ sum_by measure insns

-- each block is cleaned by what is live at its bottom
pub record AreCleaned (before after : List (List VmInsn)) : Type 0 where
  pub temps : ℕ
  pub tops : List (List Bool)
  pub bottoms : List (List Bool)
  pub live : AreLive reads_of writes_of targets_of flows_on_of before temps tops bottoms
  pub as_many : length after ≡ length before
  pub each : (block : ℕ) (insns : List VmInsn) → slice_get before block ≡ Some insns →
      slice_get after block ≡ Some (cleaned (has_at bottoms block) insns)

-- what dead_writes makes of a function
pub record IsCleanedOf (f g : VmFunction) : Type 0 where
  pub name : g.name ≡ f.name
  pub params : g.params ≡ f.params
  pub temps : g.temps ≡ f.temps
  pub objects : g.objects ≡ f.objects
  pub blocks : AreCleaned f.blocks g.blocks
  pub none_dead : (block : ℕ) (insns : List VmInsn) → slice_get g.blocks block ≡ Some insns →
      NoneIsDead (has_at blocks.bottoms block) insns
  pub marks : GoesBackToMarks g.blocks

-- no more instructions, as many edges, and no more cost and size
pub record MeasuresFall (f g : VmFunction) : Type 0 where
  pub insns : count_of g.blocks ≤ count_of f.blocks
  pub edges : edge_count targets_of flows_on_of g.blocks ≡ edge_count targets_of flows_on_of f.blocks
  pub cost : cost g ≤ cost f
  pub size : function_size g ≤ function_size f

-- functions by number, of which the second ones are the first cleaned
pub data FunctionsAreCleaned : (before after : List FunctionCode) → Type 0 where
  NoFunction : FunctionsAreCleaned [] []
  Function : {fs gs : List FunctionCode} → (f g : FunctionCode) → g.sizes ≡ f.sizes →
      All (EndsLate targets_of flows_on_of) f.blocks → AreCleaned f.blocks g.blocks → FunctionsAreCleaned fs gs →
      FunctionsAreCleaned (f ∷ fs) (g ∷ gs)

-- a run that ends with a meaning ends so too, in the same world
abbrev pub CleaningKeepsRuns : Type 0
CleaningKeepsRuns =
    (rooms : Rooms) (fs gs : List FunctionCode) → FunctionsAreCleaned fs gs →
    (main : ℕ) (w : World) (steps : ℕ) (e : Ending) → IsDefined e → vm_run rooms fs main w steps ≡ Over e →
    (fewer : ℕ) × (vm_run rooms gs main w fewer ≡ Over e)
