-- The run of the code of a unit ends as the run of the unit (C99 5.1.2.3).
use Rattle.std.specs.Prelude.{◌≡◌, ℕ, ◌<◌, List, All, map}
use Rattle.mem_model.specs.World.{Rooms}
use Rattle.mem_model.specs.Ending.{Ending, EndsAs, IsDefined}
use Rattle.machine_model.specs.Machine.{Over}
use Rattle.mem_objects.specs.declared.DataObject.{DataObject}
use Rattle.suifvm_meaning.specs.Behave.{FunctionCode, vm_run, start_world}
use Rattle.c_typed_tree.specs.declared.units.TypedUnit.{TypedUnit}
use Rattle.c_typed_tree.specs.Lawful.{IsTypedUnit}
use Rattle.c_semantics.specs.Behaves.{main_of, run_main}
use Rattle.lowering_theorem.specs.lowering_function_laws.Laws.{code_for}

-- a run of functions from one with a number is over after so many steps with an ending
pub record IsOver (rooms : Rooms) (functions : List FunctionCode) (main : ℕ) (globals : List DataObject)
    (input : List ℕ) (turns : ℕ) (e : Ending) : Type 0 where
  pub steps : ℕ
  pub over : vm_run rooms functions main (start_world globals input turns) steps ≡ Over e

-- the run ends as another ending is, and in one way only
pub record RunsTo (rooms : Rooms) (functions : List FunctionCode) (main : ℕ) (globals : List DataObject)
    (input : List ℕ) (turns : ℕ) (o : Ending) : Type 0 where
  pub ending : Ending
  pub ends : IsOver rooms functions main globals input turns ending
  pub same : EndsAs ending o
  pub only : (e : Ending) → IsOver rooms functions main globals input turns e → e ≡ ending

abbrev pub CodeKeepsMeaning : Type 0
CodeKeepsMeaning =
    (u : TypedUnit) → IsTypedUnit u →
    (rooms : Rooms) (input : List ℕ) (turns : ℕ) → All (λ byte. byte < 256) input →
    IsDefined (run_main u rooms input turns) →
    RunsTo rooms (map (code_for u.structs) u.functions) (main_of u) u.globals input turns (run_main u rooms input turns)
