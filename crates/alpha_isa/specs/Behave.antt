-- The behaviour of an image: what it writes and how it ends, within a number of steps.
use Rattle.std.specs.Prelude.{ℕ, ◌+◌, ◌%◌, ◌≡◌, ◌≤◌, List, [], replicate, slice_set}
use Rattle.alpha_isa.specs.Program.{Program, data_of, word_address, stack_start}
use Rattle.alpha_isa.specs.State.{State}
use Rattle.alpha_isa.specs.Step.{Halt, MachineNext, exec}
use Rattle.alpha_isa.specs.Step as step

-- a stack that a run may be given, in bytes
pub record IsStack (size : ℕ) : Type 0 where
  pub least : 4096 ≤ size
  pub most : size ≤ 268435456
  pub whole : size % 16 ≡ 0

-- where a run begins: the data is that of the image, register 30 stands at the end of the stack, all else is zero
abbrev pub start_state : Program → ℕ → List ℕ → State
start_state p stack input = record {
  pc = word_address p.entry;
  registers = slice_set (replicate 32 0) 30 (stack_start p + stack);
  data_bytes = data_of p;
  stack_bytes = replicate stack 0;
  input = input;
  output = [];
}

-- a run that ended with a status, that trapped with a code, that can do nothing more at a place, or
-- that goes on, each with what was written so far
pub data Behaviour : Type 0 where
  Done : (output : List ℕ) (status : ℕ) → Behaviour
  Trap : (output : List ℕ) (code : ℕ) → Behaviour
  Stuck : (output : List ℕ) (pc : ℕ) → Behaviour
  More : (output : List ℕ) → Behaviour

abbrev pub behaviour_of_halt : Halt → List ℕ → Behaviour
behaviour_of_halt (step.Done status) output = Done output status
behaviour_of_halt (step.Trap code) output = Trap output code
behaviour_of_halt (step.Stuck pc) output = Stuck output pc

abbrev pub behaviour : MachineNext → Behaviour
behaviour (step.Goes s) = More s.output
behaviour (step.Over h s) = behaviour_of_halt h s.output

-- the run of an image on a stack of this size and this input, in at most m steps
abbrev pub behave_a : Program → ℕ → List ℕ → ℕ → Behaviour
behave_a p stack input m = behaviour (exec p m (start_state p stack input))

-- what was written
abbrev pub output_of : Behaviour → List ℕ
output_of (Done output status) = output
output_of (Trap output code) = output
output_of (Stuck output pc) = output
output_of (More output) = output
