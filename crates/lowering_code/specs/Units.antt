-- The code of units, and its runs.
use Rattle.std.specs.Prelude.{ℕ, List, map}
use Rattle.mem_model.specs.World.{Rooms}
use Rattle.machine_model.specs.Machine.{Next, Goes, Over}
use Rattle.c_mean.specs.Behaviour.{CBehaviour, More}
use Rattle.c_typed_tree.specs.declared.types.StructDef.{StructDef}
use Rattle.c_typed_tree.specs.declared.units.TypedFn.{TypedFn}
use Rattle.c_typed_tree.specs.declared.units.TypedUnit.{TypedUnit}
use Rattle.c_semantics.specs.Behaves.{behaviour_of, main_of, rooms_of}
use Rattle.suifvm_meaning.specs.Behave.{FunctionCode, Registers, vm_run, start_world}
use Rattle.lowering_code.specs.Functions.{objects_of, function_blocks}

-- a function as a run sees it
abbrev pub function_code : List StructDef → TypedFn → FunctionCode
function_code ds f =
    record { sizes = map (λ o. o.size) (objects_of ds f.locals); blocks = function_blocks ds f }

-- the functions of a unit, by their numbers
abbrev pub unit_code : TypedUnit → List FunctionCode
unit_code unit = map (function_code unit.structs) unit.functions

-- what a run has come to; one that goes on has put nothing yet
abbrev pub behaviour_so_far : Next Registers → CBehaviour
behaviour_so_far (Goes k) = More k.world.outer.output
behaviour_so_far (Over e) = behaviour_of e

-- so many steps of the code of a unit
abbrev pub unit_behaviour : TypedUnit → (input : List ℕ) → (turns steps : ℕ) → CBehaviour
unit_behaviour unit input turns steps =
    behaviour_so_far
    (vm_run (rooms_of unit) (unit_code unit) (main_of unit) (start_world unit.globals input turns) steps)
