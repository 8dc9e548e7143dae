-- The room on the stack.
use Rattle.std.proofs.Common.{◌≡◌, ℕ, ◌+◌, ◌<◌, ◌≤◌, List, [], ◌∷◌, ◌∙◌, arith}
use Rattle.alpha_isa.specs.Program.{Program, stack_start}
use Rattle.alpha_isa.specs.State.{State, register}
use Rattle.alpha_items.specs.Words.{most_address}
use Rattle.frame_steps.specs.item_steps.Standing.{Labels}
use Rattle.alpha_rt.specs.Calls.{scratch_size}
use Rattle.alloc_model.specs.Places.{Places}
use Rattle.frame_memory.specs.Bytes.{Bytes}
use Rattle.frame_memory.specs.Relation.{Extents, Owners}
use Rattle.frame_memory.specs.Machine.{memory_bytes}
use Rattle.frame_memory.specs.flat_frames.Shapes.{FrameShape, frame_size}
use Rattle.frame_steps.specs.frame_transfers.Laws.{CallAt}
use Rattle.frame_simulation.specs.call_entries.Stacks.{WaitingCall, Start, CallersAre, StackIs, view_above}
use Rattle.frame_simulation.specs.call_entries.Entering.{HasRoom}
use Rattle.frame_simulation.specs.division_calls.Divisions.{HasScratch}
use Rattle.frame_simulation.specs.stack_rooms.Rooms.{frames_size, rooms_size}

callers-fill : (p : Program) (there : Labels) (start : Start) (xs : Extents) (owner : Owners) (m : Bytes) (gs : List WaitingCall) (view : ℕ → ℕ) (sp : ℕ) (s : FrameShape) → CallersAre p there start xs owner m view sp s gs → sp + frames_size s gs ≡ start.top
callers-fill p there start xs owner m [] view sp s a = a.0
callers-fill p there start xs owner m (g ∷ gs) view sp s a =
    let h = callers-fill p there start xs owner m gs (view_above m (sp + frame_size s) g.shape view) (sp + frame_size s) g.shape a.3 in
    let e : sp + (frame_size s + frames_size g.shape gs) ≡ sp + frame_size s + frames_size g.shape gs = omega arith in
    e ∙ h

frames-below : (gs : List WaitingCall) (s : FrameShape) → frames_size s gs + scratch_size ≤ rooms_size s gs
frames-below [] s = omega arith
frames-below (g ∷ gs) s = let h = frames-below gs g.shape in omega (arith, h)

pub frames_fill_stack : (p : Program) (there : Labels) (start : Start) (c : CallAt) (gs : List WaitingCall) (held : Places) (s : State) → StackIs p there start c gs held s → c.sp + frames_size c.shape gs ≡ start.top
frames_fill_stack p there start c gs held s h = callers-fill p there start c.extents c.owner (memory_bytes p s) gs (view_above (memory_bytes p s) c.sp c.shape (register s)) c.sp c.shape h.callers_are

pub scratch_is_there : (p : Program) (there : Labels) (start : Start) (c : CallAt) (gs : List WaitingCall) (held : Places) (s : State) → StackIs p there start c gs held s → stack_start p + rooms_size c.shape gs ≤ start.top → HasScratch p c s
scratch_is_there p there start c gs held s h le =
    let fill = frames_fill_stack p there start c gs held s h in
    let below = frames-below gs c.shape in
    record {
      room = omega (arith, fill, below, le);
      free = h.free;
      reached = λ y from to. h.reached y from (omega (arith, to, fill));
    }

pub room_is_there : (p : Program) (there : Labels) (start : Start) (c : CallAt) (gs : List WaitingCall) (held : Places) (s : State) (called : FrameShape) → StackIs p there start c gs held s → stack_start p + (frame_size called + scratch_size + rooms_size c.shape gs) ≤ start.top → frame_size called + frame_size c.shape < most_address → HasRoom p c called
room_is_there p there start c gs held s called h le near =
    let fill = frames_fill_stack p there start c gs held s h in
    let below = frames-below gs c.shape in
    record { room = omega (arith, fill, below, le); near = near }
