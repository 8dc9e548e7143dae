-- What is seen of a run that is over, and that a run of code from a configuration is seen to end so.
use Rattle.std.specs.Prelude.{◌≡◌, ◌≢◌, ℕ, List}
use Rattle.mem_model.specs.declared.value.Value.{Value}
use Rattle.mem_model.specs.Memory.{Memory}
use Rattle.mem_model.specs.World.{World, Rooms, with_memory}
use Rattle.mem_model.specs.Ending.{Ending, Done, Trap, Undefined, More, Evaluation, Gives, Ends}
use Rattle.machine_model.specs.Machine as machine
use Rattle.machine_model.specs.Machine.{Frame, Config, Next, Goes, Over, go_on, exec}
use Rattle.suifvm_meaning.specs.Behave.{FunctionCode, Registers, vm_code}
use Rattle.c_semantics.specs.Runs.{CallState}
use Rattle.lowering_states.specs.Places.{CodePlace}

-- what is seen of the world in which a run ends
pub record View : Type 0 where
  pub output : List ℕ
  pub input : List ℕ
  pub takings : ℕ
  pub turns : ℕ
  pub peak : ℕ

abbrev pub view : World → View
view w = record {
  output = w.outer.output;
  input = w.outer.input;
  takings = w.outer.takings;
  turns = w.meter.turns;
  peak = w.meter.peak;
}

-- a run ended with a status, by a trap or for want of a turn; it is not defined, or not over
pub data CodeObservation : Type 0 where
  ObservesDone : View → (status : ℕ) → CodeObservation
  ObservesTrap : View → (code : ℕ) → CodeObservation
  ObservesMore : View → CodeObservation
  NotDefined : CodeObservation
  NotOver : CodeObservation

abbrev pub observation_of : Ending → CodeObservation
observation_of (Done w status) = ObservesDone (view w) status
observation_of (Trap w code) = ObservesTrap (view w) code
observation_of (Undefined w at) = NotDefined
observation_of (More w) = ObservesMore (view w)

abbrev pub observation : Next Registers → CodeObservation
observation (Goes k) = NotOver
observation (Over e) = observation_of e

-- what a part of a program gives, handed to what follows it
abbrev pub finish : {A : Type 0} → Evaluation A CallState → (A → CallState → CodeObservation) → CodeObservation
finish (Gives a s) K = K a s
finish (Ends e) K = observation_of e

module _ (rooms : Rooms) (functions : List FunctionCode) where
  -- so many instructions from a configuration
  abbrev pub run : (steps : ℕ) → Config Registers → Next Registers
  run steps k = exec Value Registers rooms (vm_code functions) steps k

  -- the run from a configuration is seen to end so, where that is defined
  pub record Meets (o : CodeObservation) (k : Config Registers) : Type 0 where
    pub by : o ≢ NotDefined → (steps : ℕ) × (observation (run steps k) ≡ o)

  -- the same where a call returns values to those that wait, with this instruction's number
  abbrev pub resumes : (at : ℕ) → List Value → World → List (Frame Registers) → Next Registers
  resumes at vs w frames = machine.return_to Value Registers rooms (vm_code functions) at vs w frames

  pub record Resumes (o : CodeObservation) (vs : List Value) (w : World) (frames : List (Frame Registers)) :
      Type 0 where
    pub by : o ≢ NotDefined → (at : ℕ) → (steps : ℕ) × (observation (go_on (resumes at vs w frames) (run steps)) ≡ o)

-- a call of a function at a place, with the memory of the code in the place of that of the C meaning
abbrev pub frame_of : (function own : ℕ) → CodePlace → Registers → Frame Registers
frame_of i own p r = record { point = record { function = i; block = p.block; at = p.at }; own = own; store = r }

abbrev pub config : (function own : ℕ) → List (Frame Registers) → CodePlace → Registers → World → Memory →
    Config Registers
config i own waiting p r w n = record { here = frame_of i own p r; callers = waiting; world = with_memory w n }
