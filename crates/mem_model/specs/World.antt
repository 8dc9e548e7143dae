-- The world of a run over objects, in two parts: what instructions touch, and what only the run itself
-- counts (C99 5.1.2.3). Every run takes a list of rooms, one for each function by its number, as a parameter.
use Rattle.std.specs.Prelude.{ℕ, zero, suc, ◌+◌, ◌-◌, max, List, [], ◌∷◌, ◌++◌, drop, Option, Some, None, slice_get, slice_index}
use Rattle.mem_model.specs.Memory.{Memory}

-- the outer part: the memory, the bytes of the input that are left, how often a byte of it was taken, and the
-- bytes of the output so far
pub record Outer : Type 0 where
  pub memory : Memory
  pub input : List ℕ
  pub takings : ℕ
  pub output : List ℕ

-- the meter: the turns that are left, the sum of the rooms of the active calls, and the greatest such sum so far
pub record Meter : Type 0 where
  pub turns : ℕ
  pub room : ℕ
  pub peak : ℕ

-- the world: both parts
pub record World : Type 0 where
  pub outer : Outer
  pub meter : Meter

-- the outer part, or the world, with another memory; the world with another meter
abbrev pub outer_with_memory : Outer → Memory → Outer
outer_with_memory o m = record o { memory = m }

abbrev pub with_memory : World → Memory → World
with_memory w m = record w { outer = outer_with_memory w.outer m }

abbrev pub with_meter : World → Meter → World
with_meter w m = record w { meter = m }

-- the next byte of the input (C99 7.19.7.6), None at its end; taking it, which counts at the end too
abbrev pub next_byte : Outer → Option ℕ
next_byte o = slice_get o.input 0

abbrev pub take_byte : Outer → Outer
take_byte o = record o { input = drop 1 o.input; takings = o.takings + 1 }

-- a byte is put behind the output (C99 7.19.7.9)
abbrev pub put_byte : Outer → (byte : ℕ) → Outer
put_byte o byte = record o { output = o.output ++ byte ∷ [] }

-- one room for each function number; past the list, as for a built-in function, the room is 0
abbrev pub Rooms : Type 0
Rooms = List ℕ

abbrev pub room_of : Rooms → (function : ℕ) → ℕ
room_of rooms function = slice_index rooms function

-- the meter of a run that is to take so many turns, before its first call
abbrev pub meter_of : (turns : ℕ) → Meter
meter_of turns = record { turns = turns; room = 0; peak = 0 }

-- a turn is taken, where one is left
abbrev pub turn_from : (turns : ℕ) → Meter → Option Meter
turn_from zero m = None
turn_from (suc turns) m = Some (record m { turns = turns })

abbrev pub take_turn : Meter → Option Meter
take_turn m = turn_from m.turns m

-- a function is entered, and left
abbrev pub enter_call : Rooms → (function : ℕ) → Meter → Meter
enter_call rooms function m =
    record m { room = m.room + room_of rooms function; peak = max m.peak (m.room + room_of rooms function) }

abbrev pub leave_call : Rooms → (function : ℕ) → Meter → Meter
leave_call rooms function m = record m { room = m.room - room_of rooms function }

-- so many turns more
abbrev pub with_turns : (more : ℕ) → Meter → Meter
with_turns more m = record m { turns = m.turns + more }
