-- What a run of a machine does, by the steps of the definition.
use Rattle.std.specs.Prelude.{◌≡◌, ℕ, zero, suc, ◌+◌, ◌<◌, List, [], ◌++◌, length, Option, Some, None, option_map, IsTrue, if◌then◌else◌}
use Rattle.alpha_isa.specs.Program.{Program}
use Rattle.alpha_isa.specs.State.{State}
use Rattle.alpha_isa.specs.Step.{Halt, MachineNext, Goes, Over, step, exec}
use Rattle.alpha_isa.specs.Step as step
use Rattle.alpha_isa.specs.Behave.{behave_a, start_state}
use Rattle.alpha_isa.specs.Behave as behave
use Rattle.bk_io.specs.Outside.{next_count, count_plus, Traffic}
use Rattle.alpha_run.specs.declared.ending.Ending.{Ending}
use Rattle.alpha_run.specs.declared.ending.Ending.TheVariants.{Done, Trap, Stuck, Budget, InputFault, WriteFault}
use Rattle.alpha_run.specs.Snapshot.{Snapshot, snapshot_state, first_snapshot, IsMachineOf}
use Rattle.alpha_run.specs.Services.{asks_service}

-- ---- counts

-- how many of the first n steps are done: all that were begun but one that is stuck
abbrev pub last_step : Halt → ℕ
last_step (step.Stuck pc) = 0
last_step _ = 1

abbrev pub steps_then : MachineNext → (State → ℕ) → ℕ
steps_then (Goes t) rest = suc (rest t)
steps_then (Over h t) rest = last_step h

unfoldable pub steps_in : Program → ℕ → State → ℕ
steps_in p zero s = 0
steps_in p (suc n) s = steps_then (step p s) (steps_in p n)

-- how many of the first n steps take a byte of the input
abbrev pub takes_then : MachineNext → (State → ℕ) → ℕ
takes_then (Goes t) rest = rest t
takes_then (Over h t) rest = 0

unfoldable pub takes_in : Program → ℕ → State → ℕ
takes_in p zero s = 0
takes_in p (suc n) s = (if asks_service p 3 s then 1 else 0) + takes_then (step p s) (takes_in p n)

-- how often the input was asked: once for each byte taken, and once where it failed
abbrev pub input_calls : Ending → ℕ → ℕ
input_calls InputFault taken = suc taken
input_calls _ taken = taken

-- the counts of faults of the input and the output after a run: one more where they failed, and else as before
abbrev pub input_faults_after : Ending → ℕ → ℕ
input_faults_after InputFault faults = next_count faults
input_faults_after _ faults = faults

abbrev pub output_faults_after : Ending → ℕ → ℕ
output_faults_after WriteFault faults = next_count faults
output_faults_after _ faults = faults

-- ---- runs

-- the end of a program that an ending tells
abbrev pub halt_of : Ending → Option Halt
halt_of (Done status) = Some (step.Done status)
halt_of (Trap code) = Some (step.Trap code)
halt_of (Stuck pc) = Some (step.Stuck pc)
halt_of _ = None

-- how a run of n steps from s stops, in the state t after k steps: after all of them, or before one that
-- the outside failed at
abbrev pub StopsAt : Program → ℕ → State → Ending → ℕ → State → Type 0
StopsAt p n s (Done status) k t = (k ≡ n) × (exec p n s ≡ Over (step.Done status) t)
StopsAt p n s (Trap code) k t = (k ≡ n) × (exec p n s ≡ Over (step.Trap code) t)
StopsAt p n s (Stuck pc) k t = (k ≡ n) × (exec p n s ≡ Over (step.Stuck pc) t)
StopsAt p n s Budget k t = (k ≡ n) × (exec p n s ≡ Goes t)
StopsAt p n s InputFault k t = (k < n) × (exec p k s ≡ Goes t) × IsTrue (asks_service p 3 t)
StopsAt p n s WriteFault k t = (k < n) × (exec p k s ≡ Goes t) × IsTrue (asks_service p 2 t)

-- the machine after so many more steps and bytes, in the state t
abbrev pub snapshot_after : Snapshot → State → ℕ → ℕ → Ending → Snapshot
snapshot_after m t steps written e = record m {
  pc = t.pc;
  registers = t.registers;
  data_bytes = t.data_bytes;
  stack_bytes = t.stack_bytes;
  steps = count_plus steps m.steps;
  written = count_plus written m.written;
  halt = halt_of e;
}

-- a run of n steps from the state s, of whose input this rest is left: where it stopped, and what it did to the machine,
-- the input and the output
pub record IsRun (p : Program) (n : ℕ) (e : Ending) (s : State) (rest : List ℕ) (old new : Snapshot)
    (told after : Traffic) : Type 0 where
  pub tried : ℕ
  pub place : State
  pub put : List ℕ
  pub stops : StopsAt p n s e tried place
  pub puts : place.output ≡ s.output ++ put
  pub machine : new ≡ snapshot_after old place (steps_in p tried s) (length put) e
  pub left : place.input ≡ rest
  pub made : after.made ≡ option_map (count_plus (input_calls e (takes_in p tried s))) told.made
  pub taken : after.taken ≡ option_map (λ bytes. bytes ++ put) told.taken

-- what n steps of a machine are on an input, of which this rest is left, whatever program it runs
abbrev pub RunsOn : (n : ℕ) → Ending → (old new : Snapshot) → (told after : Traffic) → (input rest : List ℕ) → Type 0
RunsOn n e old new told after input rest =
    (p : Program) → IsMachineOf p old → old.halt ≡ None →
    IsRun p n e (snapshot_state old input []) rest old new told after

-- ---- a run from the start

-- what an image does in n steps, by the ending of a run and the bytes that it put: where the outside failed,
-- it goes on after fewer steps
abbrev pub ImageGives : Program → ℕ → List ℕ → ℕ → Ending → List ℕ → Type 0
ImageGives p stack input n (Done status) put = behave_a p stack input n ≡ behave.Done put status
ImageGives p stack input n (Trap code) put = behave_a p stack input n ≡ behave.Trap put code
ImageGives p stack input n (Stuck pc) put = behave_a p stack input n ≡ behave.Stuck put pc
ImageGives p stack input n Budget put = behave_a p stack input n ≡ behave.More put
ImageGives p stack input n _ put = (k : ℕ) × (k < n) × (behave_a p stack input k ≡ behave.More put)

-- A run of n steps from the start of an image, of whose input this rest is left: where it stopped, and what it did to
-- the input and the output. Where the outside failed, it stood at the service that the outside failed at.
pub record MachineBehaves (p : Program) (stack : ℕ) (input rest : List ℕ) (n : ℕ) (e : Ending)
    (before after : Traffic) : Type 0 where
  pub tried : ℕ
  pub place : State
  pub stops : StopsAt p n (start_state p stack input) e tried place
  pub gives : ImageGives p stack input n e place.output
  pub left : place.input ≡ rest
  pub made : after.made ≡ option_map (count_plus (input_calls e (takes_in p tried (start_state p stack input))))
      before.made
  pub taken : after.taken ≡ option_map (λ bytes. bytes ++ place.output) before.taken

-- what n steps of a machine are on an input, of which this rest is left, where an image was just loaded into it
abbrev pub BehavesOn : (n : ℕ) → Ending → (old : Snapshot) → (told after : Traffic) → (input rest : List ℕ) → Type 0
BehavesOn n e old told after input rest =
    (p : Program) (stack : ℕ) → old ≡ first_snapshot p stack → MachineBehaves p stack input rest n e told after
