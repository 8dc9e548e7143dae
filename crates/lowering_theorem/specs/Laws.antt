-- The program of a unit runs as the unit does (C99 5.1.2.3).
use Rattle.std.specs.Prelude.{◌≡◌, ◌≢◌, ℕ, ◌<◌, List, All}
use Rattle.mem_model.specs.World.{Rooms}
use Rattle.mem_model.specs.Ending.{Ending, EndsAs, ending_peak, IsDefined}
use Rattle.suifvm_ir.specs.declared.program.VmProgram.{VmProgram}
use Rattle.suifvm_meaning.specs.Behave.{behave_vm}
use Rattle.c_mean.specs.Behaviour as b
use Rattle.c_typed_tree.specs.declared.units.TypedUnit.{TypedUnit}
use Rattle.c_typed_tree.specs.Lawful.{IsTypedUnit}
use Rattle.c_semantics.specs.Behaves.{behave_c, behaviour_of, peak, rooms_of, run_main}
use Rattle.lowering.specs.Lowered.{AreLowered}

-- a program is the code of a unit: its functions are that of the unit's, by their numbers, and its objects are those of
-- the unit
pub record IsCodeOf (u : TypedUnit) (p : VmProgram) : Type 0 where
  pub functions : AreLowered u.structs u.functions p.functions
  pub globals : p.globals ≡ u.globals

-- the run of a program ends as another ending is, and in no other way
pub record VmRunsTo (rooms : Rooms) (p : VmProgram) (input : List ℕ) (turns : ℕ) (o : Ending) : Type 0 where
  pub ending : Ending
  pub ends : behave_vm rooms p input turns ending
  pub same : EndsAs ending o
  pub only : (e : Ending) → behave_vm rooms p input turns e → e ≡ ending

-- a program runs as a unit does, on every input of bytes, with every number of turns and whatever the rooms are, where
-- the run of the unit is defined
abbrev pub CodeRunsAs : TypedUnit → VmProgram → Type 0
CodeRunsAs u p =
    (rooms : Rooms) (input : List ℕ) (turns : ℕ) → All (λ byte. byte < 256) input →
    IsDefined (run_main u rooms input turns) → VmRunsTo rooms p input turns (run_main u rooms input turns)

abbrev pub ProgramsKeepMeaning : Type 0
ProgramsKeepMeaning = (u : TypedUnit) (p : VmProgram) → IsTypedUnit u → IsCodeOf u p → CodeRunsAs u p

-- what a program that runs as a unit does, with the rooms of the functions of the unit, is what the unit does
pub record BehavesAsUnit (u : TypedUnit) (p : VmProgram) (input : List ℕ) (turns : ℕ) : Type 0 where
  pub ending : Ending
  pub ends : behave_vm (rooms_of u) p input turns ending
  pub behaviour : behaviour_of ending ≡ behave_c u input turns
  pub peak : ending_peak ending ≡ peak u input turns

abbrev pub BehavioursAreKept : Type 0
BehavioursAreKept =
    (u : TypedUnit) (p : VmProgram) → CodeRunsAs u p →
    (input : List ℕ) (turns : ℕ) → All (λ byte. byte < 256) input →
    behave_c u input turns ≢ b.Undefined → BehavesAsUnit u p input turns
