-- How much of the stack the frames of a run take, and what is left below them.
use Rattle.std.specs.Prelude.{◌≡◌, ℕ, ◌+◌, ◌<◌, ◌≤◌, List, [], ◌∷◌}
use Rattle.alpha_isa.specs.Program.{Program, stack_start}
use Rattle.alpha_isa.specs.State.{State}
use Rattle.alpha_items.specs.Words.{most_address}
use Rattle.frame_steps.specs.item_steps.Standing.{Labels}
use Rattle.alpha_rt.specs.Calls.{scratch_size}
use Rattle.alloc_model.specs.Places.{Places}
use Rattle.frame_memory.specs.flat_frames.Shapes.{FrameShape, frame_size}
use Rattle.frame_steps.specs.frame_transfers.Laws.{CallAt}
use Rattle.frame_simulation.specs.call_entries.Stacks.{WaitingCall, Start, StackIs}
use Rattle.frame_simulation.specs.call_entries.Entering.{HasRoom}
use Rattle.frame_simulation.specs.division_calls.Divisions.{HasScratch}

-- the bytes of the frames of a call and of those that wait for it
abbrev pub frames_size : FrameShape → List WaitingCall → ℕ
frames_size s [] = frame_size s
frames_size s (g ∷ gs) = frame_size s + frames_size g.shape gs

-- a frame and the scratch bytes of a routine, for each of them: what the rooms of functions have to hold
abbrev pub rooms_size : FrameShape → List WaitingCall → ℕ
rooms_size s [] = frame_size s + scratch_size
rooms_size s (g ∷ gs) = frame_size s + scratch_size + rooms_size g.shape gs

-- the frames reach from register 30 to the end of the stack
abbrev pub FramesFillStack : Type 0
FramesFillStack =
    (p : Program) (there : Labels) (start : Start) (c : CallAt) (gs : List WaitingCall) (held : Places) (s : State) →
    StackIs p there start c gs held s → c.sp + frames_size c.shape gs ≡ start.top

-- where the stack holds the rooms of the calls, a routine has its scratch bytes,
abbrev pub ScratchIsThere : Type 0
ScratchIsThere =
    (p : Program) (there : Labels) (start : Start) (c : CallAt) (gs : List WaitingCall) (held : Places) (s : State) →
    StackIs p there start c gs held s → stack_start p + rooms_size c.shape gs ≤ start.top → HasScratch p c s

-- and where it holds that of a called function besides, the function has its frame
abbrev pub RoomIsThere : Type 0
RoomIsThere =
    (p : Program) (there : Labels) (start : Start) (c : CallAt) (gs : List WaitingCall) (held : Places) (s : State)
    (called : FrameShape) → StackIs p there start c gs held s →
    stack_start p + (frame_size called + scratch_size + rooms_size c.shape gs) ≤ start.top →
    frame_size called + frame_size c.shape < most_address → HasRoom p c called
