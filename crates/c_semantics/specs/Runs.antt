-- A run of a part of a program: from a state it comes to a value and a state, or to the ending of the whole run.
use Rattle.std.specs.Prelude.{ℕ, ◌%◌, ◌==◌, Option, Some, None, if◌then◌else◌}
use Rattle.mem_model.specs.declared.value.Value.{Value}
use Rattle.mem_model.specs.declared.value.Value.TheVariants.{Word, Address, Unset}
use Rattle.mem_model.specs.Memory.{Memory}
use Rattle.mem_model.specs.World.{Outer, Meter, World, with_memory, with_meter, take_turn}
use Rattle.mem_model.specs.Ending.{Done, Trap, Undefined, More, Evaluation, Gives, Ends}
use Rattle.c_semantics.specs.Reasons.{Reason, ReadsUnwritten, UsesNoValue}

-- the values of the locals that are no objects of memory, by number
abbrev pub LocalRegisters : Type 0
LocalRegisters = ℕ → Value

abbrev pub with_local_value : LocalRegisters → (number : ℕ) → Value → LocalRegisters
with_local_value r number v = λ k. if k == number then v else r k

-- the registers of the call, and the world
pub record CallState : Type 0 where
  pub registers : LocalRegisters
  pub world : World

abbrev pub in_world : CallState → World → CallState
in_world s w = record { registers = s.registers; world = w }

abbrev pub with_outer : CallState → Outer → CallState
with_outer s o = in_world s (record { outer = o; meter = s.world.meter })

abbrev pub with_registers : CallState → LocalRegisters → CallState
with_registers s r = record { registers = r; world = s.world }

abbrev pub Run : Type 0 → Type 0
Run A = CallState → Evaluation A CallState

-- one run after the other: the second is given the value of the first
abbrev pub and_then : {A B : Type 0} → Evaluation A CallState → (A → Run B) → Evaluation B CallState
and_then (Gives a s) k = k a s
and_then (Ends e) k = Ends e

infixl 10 ◌>>=◌
unfoldable pub ◌>>=◌ : {A B : Type 0} → Run A → (A → Run B) → Run B
m >>= k = λ s. and_then (m s) k

infixl 10 ◌>>◌
abbrev pub ◌>>◌ : {A B : Type 0} → Run A → Run B → Run B
m >> k = m >>= (λ _. k)

unfoldable pub pure : {A : Type 0} → A → Run A
pure a = λ s. Gives a s

-- the endings
unfoldable pub undefined_behaviour : {A : Type 0} → Reason → Run A
undefined_behaviour reason = λ s. Ends (Undefined s.world 0)

unfoldable pub trap : {A : Type 0} → (code : ℕ) → Run A
trap code = λ s. Ends (Trap s.world code)

unfoldable pub exit : {A : Type 0} → (status : ℕ) → Run A
exit status = λ s. Ends (Done s.world (status % 256))

unfoldable pub no_turn : {A : Type 0} → Run A
no_turn = λ s. Ends (More s.world)

-- a turn is taken, where one is left
abbrev pub spend_turn : Option Meter → Run (Unit {0})
spend_turn None = no_turn
spend_turn (Some m) = λ s. Gives tt (in_world s (with_meter s.world m))

unfoldable pub turn : Run (Unit {0})
turn = λ s. spend_turn (take_turn s.world.meter) s

-- what is seen of the memory, and the memory is another one
unfoldable pub on_memory : {A : Type 0} → (Memory → Run A) → Run A
on_memory k = λ s. k s.world.outer.memory s

unfoldable pub set_memory : Memory → Run (Unit {0})
set_memory m = λ s. Gives tt (in_world s (with_memory s.world m))

-- the value, or the run is undefined
abbrev pub or_undefined : {A : Type 0} → Reason → Option A → Run A
or_undefined reason (Some a) = pure a
or_undefined reason None = undefined_behaviour reason

-- a value that is used
abbrev pub use_value : Reason → Value → Run Value
use_value reason (Word n) = pure (Word n)
use_value reason (Address p) = pure (Address p)
use_value reason Unset = undefined_behaviour reason

-- the word of a value that is used as a number
abbrev pub use_number : Value → Run ℕ
use_number (Word n) = pure n
use_number (Address p) = undefined_behaviour UsesNoValue
use_number Unset = undefined_behaviour UsesNoValue

-- a register is read, and written
unfoldable pub read_register : ℕ → Run Value
read_register k = λ s. use_value ReadsUnwritten (s.registers k) s

unfoldable pub write_register : ℕ → Value → Run (Unit {0})
write_register k v = λ s. Gives tt (with_registers s (with_local_value s.registers k v))
