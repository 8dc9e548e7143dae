-- Where a machine stands, as a configuration of the meaning.
use Rattle.std.specs.Prelude.{◌≡◌, ℕ, suc, ◌+◌, ◌<◌, ◌≤◌, ◌^◌, List, [], ◌∷◌, ◌++◌, take, drop, length, reverse, slice_get, Bool, true, false, Some}
use Rattle.bk_memory.specs.Shortage.{MemoryIsShort}
use Rattle.mem_model.specs.declared.value.Value.{Value}
use Rattle.mem_model.specs.declared.value.Value.TheVariants.{Word}
use Rattle.mem_model.specs.World.{World, Rooms}
use Rattle.mem_model.specs.Ending.{Ending, Done, Trap, Undefined, More}
use Rattle.machine_model.specs.Code.{Point}
use Rattle.machine_model.specs.Machine.{Frame, Config, Next, Goes, Over, go_on, exec, step}
use Rattle.suifvm_ir.specs.Insns.{named_register}
use Rattle.suifvm_meaning.specs.Effect.{input_word}
use Rattle.suifvm_meaning.specs.Behave.{FunctionCode, Registers, registers_of, set_registers, vm_code}
use Rattle.suifvm_machine.specs.declared.machine.Call.{Call}
use Rattle.suifvm_machine.specs.declared.machine.Machine.{Machine}
use Rattle.suifvm_machine.specs.declared.machine.Stop.{Stop}
use Rattle.suifvm_machine.specs.declared.machine.Stop.TheVariants as stop
use Rattle.suifvm_machine.specs.declared.machine.StepResult.{StepResult}
use Rattle.suifvm_machine.specs.declared.machine.StepResult.TheVariants as turn
use Rattle.suifvm_machine.specs.declared.tables.ProgramTable.{ProgramTable}
use Rattle.suifvm_machine.specs.Tables.{program_code, FunctionsAreNumbered}
use Rattle.suifvm_operations.specs.Tidy.{MemoryIsTidy}

-- ---- where it stands

abbrev pub point_of : Call → Point
point_of c = record { function = c.function; block = c.block; at = c.at }

-- the registers of a call are the end of the stack from its base on
abbrev pub frame_of_call : Call → (window : List Value) → Frame Registers
frame_of_call c window = record { point = point_of c; own = c.own; store = registers_of window }

-- the calls that wait, the last one first, whose registers lie one below the other
abbrev pub frames_of : List Call → (stack : List Value) → List (Frame Registers)
frames_of [] stack = []
frames_of (c ∷ cs) stack = frame_of_call c (drop c.base stack) ∷ frames_of cs (take c.base stack)

-- what a machine does not hold: the input that is left, how often it was asked, the output, and the rooms
pub record HiddenState : Type 0 where
  pub input : List ℕ
  pub takings : ℕ
  pub output : List ℕ
  pub room : ℕ
  pub peak : ℕ

abbrev pub world_in : Machine → HiddenState → World
world_in m h = record {
  outer = record { memory = m.memory; input = h.input; takings = h.takings; output = h.output };
  meter = record { turns = m.turns; room = h.room; peak = h.peak };
}

abbrev pub config_of : Machine → HiddenState → Config Registers
config_of m h = record {
  here = frame_of_call m.here (drop m.here.base m.stack.items);
  callers = frames_of (reverse m.callers.items) (take m.here.base m.stack.items);
  world = world_in m h;
}

abbrev pub program_of : Machine → List FunctionCode
program_of m = program_code m.program.now

-- ---- what it keeps

-- a call stands in a block of its function, whose objects have numbers
pub record Stands (p : ProgramTable) (c : Call) : Type 0 where
  pub table : slice_get p.functions.items c.function ≡ Some c.table.now
  pub row : slice_get c.table.now.blocks.items c.block ≡ Some c.row.now
  pub place : c.at ≤ length c.row.now.insns.items
  pub own : c.own + length c.table.now.objects.now ≤ 2 ^ 63

-- the calls that wait stand at an instruction, one below the other
abbrev pub Wait : ProgramTable → List Call → (stack : List Value) → Type 0
Wait p [] stack = Unit {0}
Wait p (c ∷ cs) stack =
    Stands p c × (c.at < length c.row.now.insns.items) × (c.base ≤ length stack) × Wait p cs (take c.base stack)

pub record IsSound (m : Machine) : Type 0 where
  pub numbers : FunctionsAreNumbered 0 m.program.now.functions.items m.program.now.end
  pub memory : MemoryIsTidy m.memory
  pub made : m.made ≡ length m.memory
  pub few : m.made ≤ 2 ^ 63
  pub within : m.here.base ≤ length m.stack.items
  pub here : Stands m.program.now m.here
  pub callers : Wait m.program.now (reverse m.callers.items) (take m.here.base m.stack.items)

-- ---- what a turn comes to

-- the same input, output and count
pub record SameTraffic (h g : HiddenState) : Type 0 where
  pub input : g.input ≡ h.input
  pub takings : g.takings ≡ h.takings
  pub output : g.output ≡ h.output

pub record ShowsAs (w : World) (h : HiddenState) : Type 0 where
  pub input : w.outer.input ≡ h.input
  pub takings : w.outer.takings ≡ h.takings
  pub output : w.outer.output ≡ h.output

abbrev pub ending_by : Stop → World → Ending
ending_by (stop.Exits status) w = Done w status
ending_by (stop.Traps code) w = Trap w code
ending_by (stop.Undefined number) w = Undefined w number
ending_by stop.Budget w = More w

abbrev pub with_byte : (byte : ℕ) → HiddenState → HiddenState
with_byte byte h = record h { output = h.output ++ byte ∷ [] }

-- values are written into registers, and the call goes on
abbrev pub wrote : List ℕ → List Value → Config Registers → Config Registers
wrote registers vs k = record k {
  here = record {
    point = record { function = k.here.point.function; block = k.here.point.block; at = suc k.here.point.at };
    own = k.here.own;
    store = set_registers registers vs k.here.store;
  };
}

abbrev pub with_byte_taken : HiddenState → HiddenState
with_byte_taken h = record h { input = drop 1 h.input; takings = h.takings + 1 }

-- the run goes on where the machine stands, behind what is still to be done
pub record GoesTo (next : Next Registers) (after : HiddenState → Config Registers) (h : HiddenState) : Type 0 where
  pub hidden : HiddenState
  pub goes : next ≡ Goes (after hidden)
  pub same : SameTraffic h hidden

-- the run ends, after some more steps
pub record EndsBy (rooms : Rooms) (p : ProgramTable) (next : Next Registers) (s : Stop) (h : HiddenState) : Type 0 where
  pub steps : ℕ
  pub last : World
  pub over : go_on next (exec Value Registers rooms (vm_code (program_code p)) steps) ≡ Over (ending_by s last)
  pub shows : ShowsAs last h

-- what a turn came to, where a step came to `next`
abbrev pub Comes : Rooms → ProgramTable → StepResult → Machine → HiddenState → Next Registers → Type 0
Comes rooms p turn.Goes m h next = GoesTo next (config_of m) h
Comes rooms p (turn.Over s) m h next = EndsBy rooms p next s h
Comes rooms p (turn.Puts byte) m h next = GoesTo next (λ g. config_of m (with_byte byte g)) h
Comes rooms p (turn.Takes destination) m h next =
    GoesTo next
    (λ g. wrote (named_register destination) (Word (input_word (slice_get g.input 0)) ∷ [])
    (config_of m (with_byte_taken g))) h
Comes rooms p turn.NoMemory m h next = MemoryIsShort

abbrev pub step_there : Rooms → Machine → HiddenState → Next Registers
step_there rooms m h = step Value Registers rooms (vm_code (program_of m)) (config_of m h)

-- whether the run goes on after a turn, at once or when a byte was put or taken
abbrev pub turn_goes_on : StepResult → Bool
turn_goes_on turn.Goes = true
turn_goes_on (turn.Over s) = false
turn_goes_on (turn.Puts byte) = true
turn_goes_on (turn.Takes destination) = true
turn_goes_on turn.NoMemory = false

-- whether a value is still to be written
abbrev pub waits : StepResult → Bool
waits (turn.Takes destination) = true
waits turn.Goes = false
waits (turn.Over s) = false
waits (turn.Puts byte) = false
waits turn.NoMemory = false

-- a turn came to what a step comes to
pub record TurnIs (old new : Machine) (result : StepResult) (next : Rooms → HiddenState → Next Registers) : Type 0 where
  pub sound : turn_goes_on result ≡ true → IsSound new
  pub program : turn_goes_on result ≡ true → new.program.now ≡ old.program.now
  pub place : waits result ≡ true → new.here.at < length new.here.row.now.insns.items
  pub comes : (rooms : Rooms) (h : HiddenState) → Comes rooms old.program.now result new h (next rooms h)

-- a value was written into registers, and the call goes on
pub record Wrote (old new : Machine) (registers : List ℕ) (v : Value) : Type 0 where
  pub sound : IsSound new
  pub program : new.program.now ≡ old.program.now
  pub config : (h : HiddenState) → config_of new h ≡ wrote registers (v ∷ []) (config_of old h)
