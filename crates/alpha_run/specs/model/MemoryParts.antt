-- What the code keeps of a machine, as the state of a step.
use Rattle.std.specs.Prelude.{◌≡◌, ℕ, length, slice_index, ◌==◌, if◌then◌else◌, Bool, true, false, Option, Some, None}
use Rattle.alpha_isa.specs.Program.{Program, data_start, stack_start}
use Rattle.alpha_isa.specs.State.{State}
use Rattle.alpha_run.specs.declared.registers.Registers.{Registers}
use Rattle.alpha_run.specs.declared.memory.Memory.{Memory}

-- this memory holds the bytes of a state of the program's machine
pub record IsMemoryOf (p : Program) (s : State) (m : Memory) : Type 0 where
  pub data_start : m.data_start ≡ data_start p
  pub stack_start : m.stack_start ≡ stack_start p
  pub data_bytes : s.data_bytes ≡ m.data.items
  pub stack_bytes : s.stack_bytes ≡ m.stack.items

-- the parts of a memory lie where those of another do
pub record IsLaidAs (old new : Memory) : Type 0 where
  pub data_start : new.data_start ≡ old.data_start
  pub stack_start : new.stack_start ≡ old.stack_start
  pub data_size : length new.data.items ≡ length old.data.items
  pub stack_size : length new.stack.items ≡ length old.stack.items

-- no byte of a memory changed
abbrev pub HasBytesOf : Memory → Memory → Type 0
HasBytesOf old new = (new.data.items ≡ old.data.items) × (new.stack.items ≡ old.stack.items)

-- the state with the bytes of this memory, where they were stored
abbrev pub stored_in : State → Memory → Bool → Option State
stored_in s m true = Some (record s { data_bytes = m.data.items; stack_bytes = m.stack.items })
stored_in s m false = None

-- register 31 reads as 0
abbrev pub word_in : Registers → ℕ → ℕ
word_in registers r = if r == 31 then 0 else slice_index registers.words r
