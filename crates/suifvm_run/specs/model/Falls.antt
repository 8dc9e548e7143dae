-- How many steps a run can still take, at most.
use Rattle.std.specs.Prelude.{◌≡◌, ℕ, suc, ◌+◌, ◌*◌, ◌-◌, List, [], ◌∷◌, drop, length, slice_get, IsTrue, Option, Some, None}
use Rattle.machine_model.specs.Code.{Point}
use Rattle.machine_model.specs.Machine.{Frame, Config}
use Rattle.suifvm_ir.specs.declared.insn.VmInsn.{VmInsn}
use Rattle.suifvm_ir.specs.declared.insn.VmInsn.TheVariants.{Mark}
use Rattle.suifvm_ir.specs.Programs.{goes_back_to_marks}
use Rattle.suifvm_meaning.specs.Behave.{FunctionCode, Registers, blocks_in}
use Rattle.suifvm_machine.specs.declared.machine.Machine.{Machine}
use Rattle.suifvm_machine.specs.Config.{HiddenState, config_of, program_of}

-- the places of blocks: each instruction, and the end of each block
abbrev pub places : List (List VmInsn) → ℕ
places [] = 0
places (block ∷ blocks) = suc (length block) + places blocks

abbrev pub most_places : List FunctionCode → ℕ
most_places [] = 0
most_places (f ∷ fs) = places f.blocks + most_places fs

-- the places of a function from a point on
abbrev pub left_in : (at : ℕ) → Option (List VmInsn) → ℕ
left_in at None = 0
left_in at (Some row) = suc (length row - at)

abbrev pub places_left : List FunctionCode → Point → ℕ
places_left fs p =
    left_in p.at (slice_get (blocks_in (slice_get fs p.function)) p.block)
    + places (drop (suc p.block) (blocks_in (slice_get fs p.function)))

abbrev pub calls_left : List FunctionCode → List (Frame Registers) → ℕ
calls_left fs [] = 0
calls_left fs (f ∷ calls) = places_left fs f.point + calls_left fs calls

-- the instruction at a point
abbrev pub insn_in : (at : ℕ) → Option (List VmInsn) → Option VmInsn
insn_in at None = None
insn_in at (Some row) = slice_get row at

abbrev pub insn_at : List FunctionCode → Point → Option VmInsn
insn_at fs p = insn_in p.at (slice_get (blocks_in (slice_get fs p.function)) p.block)

-- 0 before a mark, and else 1
abbrev pub unless_mark : Option VmInsn → ℕ
unless_mark (Some Mark) = 0
unless_mark _ = 1

-- between two turns no place of a call is reached twice, but for a mark where a jump goes back
abbrev pub steps_left : List FunctionCode → Config Registers → ℕ
steps_left fs k =
    calls_left fs (k.here ∷ k.callers)
    + suc (most_places fs) * (k.world.meter.turns + unless_mark (insn_at fs k.here.point))

-- the same of a machine
abbrev pub nothing_hidden : HiddenState
nothing_hidden = record { input = []; takings = 0; output = []; room = 0; peak = 0 }

abbrev pub machine_left : Machine → ℕ
machine_left m = steps_left (program_of m) (config_of m nothing_hidden)

-- jumps that go back go to marks
pub record AreMarked (fs : List FunctionCode) : Type 0 where
  pub marks : (function block at : ℕ) (f : FunctionCode) (row : List VmInsn) (i : VmInsn) →
      slice_get fs function ≡ Some f → slice_get f.blocks block ≡ Some row → slice_get row at ≡ Some i →
      IsTrue (goes_back_to_marks f.blocks block i)
