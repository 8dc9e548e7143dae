-- How far a run has come.
use Rattle.std.specs.Prelude.{◌≡◌, ℕ, ◌<◌, List, ◌++◌, Option, Some, None, IfNone, option_map}
use Rattle.mem_model.specs.declared.value.Value.{Value}
use Rattle.mem_model.specs.Memory.{Memory}
use Rattle.mem_model.specs.World.{Rooms}
use Rattle.machine_model.specs.Machine.{Config, Goes, exec}
use Rattle.suifvm_meaning.specs.Behave.{Registers, vm_code}
use Rattle.suifvm_run.specs.declared.ending.VmEnding.{VmEnding}
use Rattle.suifvm_run.specs.declared.ending.VmEnding.TheVariants as e
use Rattle.suifvm_machine.specs.declared.machine.Machine.{Machine}
use Rattle.suifvm_machine.specs.declared.machine.Stop.{Stop}
use Rattle.suifvm_machine.specs.declared.machine.Stop.TheVariants as stop
use Rattle.suifvm_machine.specs.declared.tables.ProgramTable.{ProgramTable}
use Rattle.suifvm_machine.specs.Begin.{start_at}
use Rattle.suifvm_machine.specs.Config.{HiddenState, IsSound, config_of}
use Rattle.suifvm_machine.specs.Tables.{program_code}
use Rattle.suifvm_run.specs.Run.{Steps}
use Rattle.bk_io.specs.Outside.{Traffic, OnInput, count_plus}
use Rattle.suifvm_run.specs.model.Falls.{machine_left}
use Rattle.suifvm_run.specs.model.Stops.{IsRun}

-- the steps of a program from a configuration
abbrev pub run_from : Rooms → ProgramTable → Config Registers → Steps
run_from rooms p start steps = exec Value Registers rooms (vm_code (program_code p)) steps start

-- a machine stands where so many steps lead, this is left of the input, and the output tells what these steps did
pub record StandsAt (rooms : Rooms) (p : ProgramTable) (start : Config Registers) (rest : List ℕ) (told now : Traffic)
    (m : Machine) : Type 0 where
  pub hidden : HiddenState
  pub steps : ℕ
  pub reached : run_from rooms p start steps ≡ Goes (config_of m hidden)
  pub left : hidden.input ≡ rest
  pub made : now.made ≡ option_map (count_plus hidden.takings) told.made
  pub taken : now.taken ≡ option_map (λ bytes. bytes ++ hidden.output) told.taken

-- the run goes on, or it stopped
abbrev pub TurnEnds : Rooms → ProgramTable → Config Registers → (turns : ℕ) → (rest : List ℕ) → (told now : Traffic) →
    Machine → Option VmEnding → Type 0
TurnEnds rooms p start turns rest told now m None = StandsAt rooms p start rest told now m
TurnEnds rooms p start turns rest told now m (Some ending) = IsRun (run_from rooms p start) turns ending rest told now

-- where steps of a machine lead every run that stands before them with this input left: this rest is left behind them
abbrev pub LeadsOn : (old new : Machine) → (turns : ℕ) → (before after : Traffic) → Option VmEnding →
    (input rest : List ℕ) → Type 0
LeadsOn old new turns before after result input rest =
    (rooms : Rooms) (start : Config Registers) (told : Traffic) →
    StandsAt rooms old.program.now start input told before old →
    TurnEnds rooms old.program.now start turns rest told after new result

-- the run of a table on an input, of which this rest is left, whatever the rooms are
abbrev pub TableRunsOn : ProgramTable → (main : ℕ) → Memory → (turns : ℕ) → VmEnding → (told after : Traffic) →
    (input rest : List ℕ) → Type 0
TableRunsOn p main memory turns ending told after input rest =
    (rooms : Rooms) → IsRun (run_from rooms p (start_at rooms p main memory turns input)) turns ending rest told after

-- where a step leaves a run that goes on: the machine is sound, its program the same, and fewer steps are left that it
-- can take
pub record GoesDown (old new : Machine) : Type 0 where
  pub sound : IsSound new
  pub program : new.program.now ≡ old.program.now
  pub falls : machine_left new < machine_left old

-- what one step comes to, with what it asks of the outside, in a run that had so many turns
pub record StepFollows (old new : Machine) (turns : ℕ) (before after : Traffic) (result : Option VmEnding) : Type 0 where
  pub goes : IfNone result (GoesDown old new)
  pub run : OnInput before.left after.left (LeadsOn old new turns before after result)

abbrev pub stop_ending : (turns : ℕ) → Stop → VmEnding
stop_ending turns (stop.Exits status) = e.Ended status
stop_ending turns (stop.Traps code) = e.Trapped code
stop_ending turns (stop.Undefined number) = e.Undefined number
stop_ending turns stop.Budget = e.Budget turns
