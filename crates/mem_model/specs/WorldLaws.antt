-- The laws of the world, of endings and of the meter.
use Rattle.std.specs.Prelude.{◌≡◌, ℕ, ◌+◌, ◌≤◌, [], ◌∷◌, Some, None}
use Rattle.mem_model.specs.Memory.{Memory}
use Rattle.mem_model.specs.World.{Outer, World, Meter, Rooms, with_memory, next_byte, take_byte, take_turn, enter_call, leave_call, with_turns}
use Rattle.mem_model.specs.Ending.{Ending, SameShown, EndsAs}

-- a byte that is taken is the first that was left, and at the end of the input none is
abbrev pub BytesAreTaken : Type 0
BytesAreTaken = (o : Outer) (byte : ℕ) → next_byte o ≡ Some byte → o.input ≡ byte ∷ (take_byte o).input

abbrev pub NoneIsTaken : Type 0
NoneIsTaken = (o : Outer) → next_byte o ≡ None → (o.input ≡ []) × ((take_byte o).input ≡ [])

-- another memory does not show
abbrev pub MemoriesAreHidden : Type 0
MemoriesAreHidden = (w : World) (m : Memory) → SameShown (with_memory w m) w

-- an ending is its own, and an ending of an ending is an ending
abbrev pub EndsAsItself : Type 0
EndsAsItself = (a : Ending) → EndsAs a a

abbrev pub EndsAsThrough : Type 0
EndsAsThrough = (a b c : Ending) → EndsAs c b → EndsAs b a → EndsAs c a

-- a turn that is taken is taken with more turns too, and takes nothing else
pub record IsTurn (m t : Meter) : Type 0 where
  pub turns : m.turns ≡ t.turns + 1
  pub room : t.room ≡ m.room
  pub peak : t.peak ≡ m.peak
  pub more : (k : ℕ) → take_turn (with_turns k m) ≡ Some (with_turns k t)

abbrev pub TurnsAreTaken : Type 0
TurnsAreTaken = (m t : Meter) → take_turn m ≡ Some t → IsTurn m t

-- a call raises the room and at most the peak, and leaving it takes the room back; more turns change neither
pub record CallMeter (rooms : Rooms) (function : ℕ) (m : Meter) : Type 0 where
  pub peak_rises : m.peak ≤ (enter_call rooms function m).peak
  pub room_within : (enter_call rooms function m).room ≤ (enter_call rooms function m).peak
  pub peak_stays : (leave_call rooms function m).peak ≡ m.peak
  pub room_back : (leave_call rooms function (enter_call rooms function m)).room ≡ m.room
  pub more_enter : (k : ℕ) → enter_call rooms function (with_turns k m) ≡ with_turns k (enter_call rooms function m)
  pub more_leave : (k : ℕ) → leave_call rooms function (with_turns k m) ≡ with_turns k (leave_call rooms function m)

abbrev pub CallsAreMetered : Type 0
CallsAreMetered = (rooms : Rooms) (function : ℕ) (m : Meter) → CallMeter rooms function m
