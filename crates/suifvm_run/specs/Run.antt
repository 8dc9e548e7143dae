-- What a run of a program does, by its meaning.
use Rattle.std.specs.Prelude.{◌≡◌, ℕ, suc, ◌+◌, List, ◌++◌, [], ◌∷◌, map, option_map}
use Rattle.bk_memory.specs.Shortage.{MemoryIsShort}
use Rattle.bk_io.specs.Outside.{next_count, count_plus, Traffic}
use Rattle.mem_model.specs.World.{World, Rooms}
use Rattle.mem_model.specs.Ending.{Done, Trap, Undefined, More}
use Rattle.machine_model.specs.Laws.{next_world}
use Rattle.machine_model.specs.Machine.{Config, Next, Goes}
use Rattle.suifvm_ir.specs.declared.program.VmProgram.{VmProgram}
use Rattle.suifvm_meaning.specs.Behave.{Registers, behave_vm, vm_run, code_of, main_of, start_world}
use Rattle.suifvm_run.specs.declared.ending.VmEnding.{VmEnding}
use Rattle.suifvm_run.specs.declared.ending.VmEnding.TheVariants as e

-- how often the input was asked: once for each byte taken, and once where it failed
abbrev pub input_calls : VmEnding → (takings : ℕ) → ℕ
input_calls e.InputFault takings = suc takings
input_calls _ takings = takings

-- what so many steps of a run come to
abbrev pub Steps : Type 0
Steps = ℕ → Next Registers

-- a run goes on after some number of steps, in a world
pub record GoesOn (run : Steps) (last : World) : Type 0 where
  pub steps : ℕ
  pub config : Config Registers
  pub goes : run steps ≡ Goes config
  pub world : config.world ≡ last

-- and its next step takes a byte of the input, or puts one
pub record TakesNext (run : Steps) (last : World) : Type 0 where
  pub before : GoesOn run last
  pub takes : (next_world (run (suc before.steps))).outer.takings ≡ last.outer.takings + 1

pub record PutsNext (run : Steps) (last : World) : Type 0 where
  pub before : GoesOn run last
  pub byte : ℕ
  pub puts : (next_world (run (suc before.steps))).outer.output ≡ last.outer.output ++ byte ∷ []

-- the run of a program on an input with so many turns, from its start
abbrev pub program_run : Rooms → VmProgram → (input : List ℕ) → (turns : ℕ) → Steps
program_run rooms program input turns =
    vm_run rooms (map code_of program.functions) (main_of program.functions)
    (start_world program.globals input turns)

-- How this run stops, in its last world: it is over, as the meaning of the program has it; or a byte could not be
-- taken or put, and it stands before that step; or memory is short, and it goes on
abbrev pub Stops : Rooms → VmProgram → (input : List ℕ) → (turns : ℕ) → VmEnding → (last : World) → Type 0
Stops rooms program input turns (e.Ended status) last = behave_vm rooms program input turns (Done last status)
Stops rooms program input turns (e.Trapped code) last = behave_vm rooms program input turns (Trap last code)
Stops rooms program input turns (e.Undefined pc) last = behave_vm rooms program input turns (Undefined last pc)
Stops rooms program input turns (e.Budget n) last = (n ≡ turns) × behave_vm rooms program input turns (More last)
Stops rooms program input turns e.InputFault last = TakesNext (program_run rooms program input turns) last
Stops rooms program input turns e.WriteFault last = PutsNext (program_run rooms program input turns) last
Stops rooms program input turns e.NoMemory last = GoesOn (program_run rooms program input turns) last × MemoryIsShort

-- the run of a program on an input, of which this rest is left, with so many turns that stopped: how, and what it did to
-- the input and the output
pub record VmBehaves (rooms : Rooms) (program : VmProgram) (input rest : List ℕ) (turns : ℕ) (ending : VmEnding)
    (told after : Traffic) : Type 0 where
  pub last : World
  pub stops : Stops rooms program input turns ending last
  pub left : last.outer.input ≡ rest
  pub made : after.made ≡ option_map (count_plus (input_calls ending last.outer.takings)) told.made
  pub taken : after.taken ≡ option_map (λ bytes. bytes ++ last.outer.output) told.taken

-- the same whatever the rooms are
abbrev pub VmBehavesOn : VmProgram → (turns : ℕ) → VmEnding → (told after : Traffic) → (input rest : List ℕ) → Type 0
VmBehavesOn program turns ending told after input rest =
    (rooms : Rooms) → VmBehaves rooms program input rest turns ending told after

-- the counts of faults of the input and the output after a run: one more where they failed, and else as before
abbrev pub input_faults_after : VmEnding → ℕ → ℕ
input_faults_after e.InputFault faults = next_count faults
input_faults_after _ faults = faults

abbrev pub output_faults_after : VmEnding → ℕ → ℕ
output_faults_after e.WriteFault faults = next_count faults
output_faults_after _ faults = faults
