-- The behaviour of a unit (C99 5.1.2.3): the run of `main` on an input within a number of turns.
use Rattle.std.specs.Prelude.{ℕ, suc, ◌%◌, List, [], map, slice_get, Option, Some, None, ◌∷◌, if◌then◌else◌, ◌<◌}
use Rattle.mem_model.specs.declared.value.Value.{Value}
use Rattle.mem_model.specs.declared.value.Value.TheVariants.{Word, Address, Unset}
use Rattle.mem_model.specs.Memory.{Memory}
use Rattle.mem_model.specs.World.{World, Rooms, meter_of}
use Rattle.mem_model.specs.Ending.{Ending, ending_output, ending_peak, Evaluation, Gives, Ends}
use Rattle.mem_model.specs.Ending as g
use Rattle.mem_objects.specs.Start.{start_memory}
use Rattle.c_typed_tree.specs.declared.units.TypedFn.{TypedFn}
use Rattle.c_typed_tree.specs.declared.units.TypedUnit.{TypedUnit}
use Rattle.c_typed_tree.specs.Lawful.{is_main}
use Rattle.c_typed_tree.specs.Rooms.{room}
use Rattle.c_mean.specs.Behaviour.{CBehaviour, Done, Trap, Undefined, More, Meaning}
use Rattle.c_semantics.specs.Runs.{CallState}
use Rattle.c_semantics.specs.Executes.{StatementFlow, Goes, Breaks, Continues, Returns, level, enter_function, leave_function, body_of}

-- the world before a run: the objects of static storage, the input, and so many turns
abbrev pub world_of : Memory → (input : List ℕ) → (turns : ℕ) → World
world_of m input turns =
    record { outer = record { memory = m; input = input; takings = 0; output = [] }; meter = meter_of turns }

-- the ending by the value of the first call of `main` (C99 5.1.2.2.3)
abbrev pub status_of : World → Value → Ending
status_of w (Word n) = g.Done w (n % 256)
status_of w (Address p) = g.Undefined w 0
status_of w Unset = g.Undefined w 0

abbrev pub ended_by : World → StatementFlow → Ending
ended_by w (Returns (Some v)) = status_of w v
ended_by w (Returns None) = g.Done w 0
ended_by w Goes = g.Done w 0
ended_by w Breaks = g.Undefined w 0
ended_by w Continues = g.Undefined w 0

abbrev pub ending_of : (World → World) → Evaluation StatementFlow CallState → Ending
ending_of leave (Gives f s) = ended_by (leave s.world) f
ending_of leave (Ends e) = e

-- the run of a function without arguments, with these rooms. Its entry takes no turn
abbrev pub run_of : TypedUnit → Rooms → (function : ℕ) → Option TypedFn → World → (turns : ℕ) → Ending
run_of unit rooms n None w turns = g.Undefined w 0
run_of unit rooms n (Some f) w turns =
    ending_of (leave_function rooms n)
    (body_of unit.structs (level unit rooms (suc turns)) n f []
    (record { registers = λ k. Unset; world = enter_function rooms n w }))

-- how many functions stand before `main`
abbrev pub place_of_main : List TypedFn → ℕ
place_of_main [] = 0
place_of_main (f ∷ fs) = if is_main f then 0 else suc (place_of_main fs)

abbrev pub main_of : TypedUnit → ℕ
main_of unit = place_of_main unit.functions

-- the run of `main` with a list of rooms
abbrev pub run_main : TypedUnit → Rooms → (input : List ℕ) → (turns : ℕ) → Ending
run_main unit rooms input turns =
    run_of unit rooms (main_of unit) (slice_get unit.functions (main_of unit))
    (world_of (start_memory unit.globals) input turns) turns

abbrev pub rooms_of : TypedUnit → Rooms
rooms_of unit = map (room unit.structs) unit.functions

abbrev pub behaviour_of : Ending → CBehaviour
behaviour_of (g.Done w status) = Done w.outer.output status
behaviour_of (g.Trap w code) = Trap w.outer.output code
behaviour_of (g.Undefined w at) = Undefined
behaviour_of (g.More w) = More w.outer.output

abbrev pub behave_c : TypedUnit → (input : List ℕ) → (turns : ℕ) → CBehaviour
behave_c unit input turns = behaviour_of (run_main unit (rooms_of unit) input turns)

-- the greatest sum of the rooms of the calls that are active at one moment
abbrev pub peak : TypedUnit → (input : List ℕ) → (turns : ℕ) → ℕ
peak unit input turns = ending_peak (run_main unit (rooms_of unit) input turns)

abbrev pub meaning : TypedUnit → Meaning
meaning unit = record { behave = behave_c unit; peak = peak unit }

-- the run ended with a status or a trap
abbrev pub IsEnded : CBehaviour → Type 0
IsEnded (Done output status) = Unit {0}
IsEnded (Trap output code) = Unit {0}
IsEnded Undefined = ⊥
IsEnded (More output) = ⊥

-- the turns that a unit takes on an input: the least number within which it ends
pub record IsTurns (unit : TypedUnit) (input : List ℕ) (turns : ℕ) : Type 0 where
  pub ends : IsEnded (behave_c unit input turns)
  pub least : (fewer : ℕ) → fewer < turns → IsEnded (behave_c unit input fewer) → ⊥
