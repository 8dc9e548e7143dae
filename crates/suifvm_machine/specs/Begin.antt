-- How a run begins.
use Rattle.std.specs.Prelude.{◌≡◌, ℕ, ◌+◌, max, List, []}
use Rattle.bk_memory.specs.Shortage.{MemoryIsShort}
use Rattle.mem_model.specs.declared.value.Value.{Value}
use Rattle.mem_model.specs.Memory.{Memory}
use Rattle.mem_model.specs.World.{World, Rooms, room_of, meter_of}
use Rattle.machine_model.specs.Machine.{Config, Over, exec, start_config}
use Rattle.suifvm_meaning.specs.Behave.{Registers, vm_code}
use Rattle.suifvm_machine.specs.declared.machine.Machine.{Machine}
use Rattle.suifvm_machine.specs.declared.machine.Stop.{Stop}
use Rattle.suifvm_machine.specs.declared.machine.StartError.{StartError}
use Rattle.suifvm_machine.specs.declared.machine.StartError.TheVariants as no_start
use Rattle.suifvm_machine.specs.declared.tables.ProgramTable.{ProgramTable}
use Rattle.suifvm_machine.specs.Config.{HiddenState, IsSound, ShowsAs, ending_by, config_of}
use Rattle.suifvm_machine.specs.Tables.{program_code}

-- the start of a function without arguments
abbrev pub start_at : Rooms → ProgramTable → (main : ℕ) → Memory → (turns : ℕ) → (input : List ℕ) → Config Registers
start_at rooms p main memory turns input =
    start_config Value Registers rooms (vm_code (program_code p)) main (record {
      outer = record { memory = memory; input = input; takings = 0; output = [] };
      meter = meter_of turns;
    })

abbrev pub first_hidden : Rooms → (main : ℕ) → (input : List ℕ) → HiddenState
first_hidden rooms main input = record {
  input = input;
  takings = 0;
  output = [];
  room = 0 + room_of rooms main;
  peak = max 0 (0 + room_of rooms main);
}

-- a machine stands at the start
pub record Begins (p : ProgramTable) (main : ℕ) (memory : Memory) (turns : ℕ) (m : Machine) : Type 0 where
  pub sound : IsSound m
  pub program : m.program.now ≡ p
  pub config : (rooms : Rooms) (input : List ℕ) →
      start_at rooms p main memory turns input ≡ config_of m (first_hidden rooms main input)

-- the first step ends the run
pub record IsOverAtOnce (rooms : Rooms) (p : ProgramTable) (main : ℕ) (memory : Memory) (turns : ℕ) (input : List ℕ)
    (s : Stop) : Type 0 where
  pub last : World
  pub over : exec Value Registers rooms (vm_code (program_code p)) 1 (start_at rooms p main memory turns input)
      ≡ Over (ending_by s last)
  pub shows : ShowsAs last (first_hidden rooms main input)

-- why no machine stands at the start: the first step ends the run, or memory is short
abbrev pub HasNoStart : ProgramTable → (main : ℕ) → Memory → (turns : ℕ) → StartError → Type 0
HasNoStart p main memory turns (no_start.Over s) =
    (rooms : Rooms) (input : List ℕ) → IsOverAtOnce rooms p main memory turns input s
HasNoStart p main memory turns no_start.NoMemory = MemoryIsShort
