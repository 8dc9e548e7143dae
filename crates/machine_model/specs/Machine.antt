-- Runs of code. Each list of rooms is a parameter of the run.
use Rattle.std.specs.Prelude.{ℕ, zero, suc, List, [], ◌∷◌, Option, Some, None, Bool, true, false, slice_get, length}
use Rattle.mem_model.specs.Memory.{begin_objects, end_objects}
use Rattle.mem_model.specs.World.{Outer, Meter, World, Rooms, outer_with_memory, take_turn, enter_call, leave_call}
use Rattle.mem_model.specs.Ending.{Ending, Done, Trap, Undefined, More}
use Rattle.machine_model.specs.Code.{Stop, Exits, Traps, HasNoMeaning, Act, Writes, Jumps, Calls, Returns, Stops, Site, Point, next_point, block_point, entry_point, Code}

-- an active call: where it stands, the number of its first object, and what keeps its values. One that waits
-- stands at its call, as before that
pub record Frame (S : Type 0) : Type 0 where
  pub point : Point
  pub own : ℕ
  pub store : S

-- a run between two instructions: the call that goes on, those that wait, the last one first, and the world
pub record Config (S : Type 0) : Type 0 where
  pub here : Frame S
  pub callers : List (Frame S)
  pub world : World

-- a run goes on, or is over
pub data Next (S : Type 0) : Type 0 where
  Goes : Config S → Next S
  Over : Ending → Next S

abbrev pub whole_world : Outer → Meter → World
whole_world o m = record { outer = o; meter = m }

-- the objects of a function begin, and so many end
abbrev pub begin_locals : Outer → List ℕ → Outer
begin_locals o sizes = outer_with_memory o (begin_objects o.memory sizes)

abbrev pub end_locals : Outer → (own count : ℕ) → Outer
end_locals o own count = outer_with_memory o (end_objects o.memory own count)

-- a turn is taken where the instruction takes one
abbrev pub turn_if : Bool → Meter → Option Meter
turn_if false m = Some m
turn_if true m = take_turn m

-- the ending by an instruction with a number, in a world
abbrev pub stop_ending : Stop → (at : ℕ) → World → Ending
stop_ending (Exits status) at w = Done w status
stop_ending (Traps code) at w = Trap w code
stop_ending HasNoMeaning at w = Undefined w at

module _ (V S : Type 0) (rooms : Rooms) (c : Code V S) where
  -- the frame of a function at its entry
  abbrev pub entry_frame : (function : ℕ) → List V → Outer → Frame S
  entry_frame function vs o =
      record { point = entry_point function; own = length o.memory; store = c.entry function vs }

  -- a frame after its instruction wrote values, and after it jumped to a block
  abbrev pub frame_after : Site V S → List V → Frame S → Frame S
  frame_after s vs f = record { point = next_point f.point; own = f.own; store = s.put vs f.store }

  abbrev pub frame_at : Site V S → (block : ℕ) → Frame S → Frame S
  frame_at s block f =
      record { point = block_point f.point block; own = f.own; store = c.edge f.point block (s.put [] f.store) }

  abbrev pub jump_to : Config S → World → Site V S → Option ℕ → Next S
  jump_to k w s None = Over (Undefined w (c.number k.here.point))
  jump_to k w s (Some block) = Goes (record { here = frame_at s block k.here; callers = k.callers; world = w })

  -- what was returned is written where the call stands; from the first function it is the status
  abbrev pub resume : Frame S → List (Frame S) → World → List V → Option (Site V S) → Next S
  resume f fs w vs None = Over (Undefined w (c.number f.point))
  resume f fs w vs (Some s) = Goes (record { here = frame_after s vs f; callers = fs; world = w })

  abbrev pub status_ending : (at : ℕ) → World → Option ℕ → Ending
  status_ending at w None = Undefined w at
  status_ending at w (Some status) = Done w status

  abbrev pub return_to : (at : ℕ) → List V → World → List (Frame S) → Next S
  return_to at vs w [] = Over (status_ending at w (c.status vs))
  return_to at vs w (f ∷ fs) = resume f fs w vs (c.site f.point)

  -- what an instruction does; m is the meter after its turn
  abbrev pub act_on : Config S → Meter → Site V S → Act V → Next S
  act_on k m s (Writes vs o) =
      Goes (record { here = frame_after s vs k.here; callers = k.callers; world = whole_world o m })
  act_on k m s (Jumps target o) = jump_to k (whole_world o m) s (slice_get s.targets target)
  act_on k m s (Calls function vs o) =
      Goes (record {
        here = entry_frame function vs o;
        callers = k.here ∷ k.callers;
        world = whole_world (begin_locals o (c.locals function)) (enter_call rooms function m);
      })
  act_on k m s (Returns vs o) =
      return_to (c.number k.here.point) vs
      (whole_world (end_locals o k.here.own (length (c.locals k.here.point.function)))
      (leave_call rooms k.here.point.function m)) k.callers
  act_on k m s (Stops e o) = Over (stop_ending e (c.number k.here.point) (whole_world o m))

  abbrev pub step_with : Config S → Site V S → Option Meter → Next S
  step_with k s None = Over (More k.world)
  step_with k s (Some m) = act_on k m s (s.does k.here.own (s.fetch k.here.store) k.world.outer)

  abbrev pub step_at : Config S → Option (Site V S) → Next S
  step_at k None = Over (Undefined k.world (c.number k.here.point))
  step_at k (Some s) = step_with k s (turn_if s.turn k.world.meter)

  -- one instruction
  abbrev pub step : Config S → Next S
  step k = step_at k (c.site k.here.point)

abbrev pub go_on : {S : Type 0} → Next S → (Config S → Next S) → Next S
go_on (Goes k) run = run k
go_on (Over e) run = Over e

-- n instructions, or fewer where the run is over before
abbrev pub exec : (V S : Type 0) → Rooms → Code V S → ℕ → Config S → Next S
exec V S rooms c zero k = Goes k
exec V S rooms c (suc n) k = go_on (step V S rooms c k) (exec V S rooms c n)

-- the start of a function without arguments
abbrev pub start_config : (V S : Type 0) → Rooms → Code V S → (function : ℕ) → World → Config S
start_config V S rooms c function w =
    record {
      here = entry_frame V S rooms c function [] w.outer;
      callers = [];
      world = whole_world (begin_locals w.outer (c.locals function)) (enter_call rooms function w.meter);
    }
