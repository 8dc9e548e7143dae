-- The laws of the frames of calls that wait.
use Rattle.std.specs.Prelude.{◌≡◌, ℕ, ◌<◌, ◌≤◌, List, length}
use Rattle.alpha_isa.specs.Program.{Program}
use Rattle.alpha_isa.specs.State.{State}
use Rattle.frame_steps.specs.item_steps.Standing.{Labels}
use Rattle.alloc_model.specs.Places.{Places, In}
use Rattle.frame_memory.specs.Bytes.{Bytes}
use Rattle.frame_memory.specs.Relation.{Extents, Owners}
use Rattle.frame_memory.specs.Machine.{memory_bytes}
use Rattle.frame_memory.specs.Laws.{MoreExtents}
use Rattle.frame_memory.specs.flat_frames.Shapes.{FrameShape}
use Rattle.frame_memory.specs.flat_frames.Frames.{FrameIs}
use Rattle.frame_steps.specs.frame_transfers.Laws.{CallAt, IsKept}
use Rattle.frame_simulation.specs.call_stacks.Stacks.{WaitingCall, Start, CallersAre, StackIs, KeepsCallers}

-- frames of calls that wait stay, with more extents, where their bytes stay and the view is the same
abbrev pub CallersStay : Type 0
CallersStay =
    (p : Program) (there : Labels) (start : Start) (xs ys : Extents) (owner new : Owners) (m k : Bytes)
    (depth bound : ℕ) → MoreExtents xs ys → KeepsCallers depth bound owner new m k →
    (gs : List WaitingCall) (u v : ℕ → ℕ) (sp own : ℕ) (s : FrameShape) (store : Places) → length gs ≤ depth →
    bound ≤ sp → FrameIs xs owner m sp (length gs) own s store → ((r : ℕ) → 9 ≤ r → r < 16 → v r ≡ u r) →
    CallersAre p there start xs owner m u sp s gs → CallersAre p there start ys new k v sp s gs

-- so the stack of a run stays through what an instruction of the call does
abbrev pub StacksStay : Type 0
StacksStay =
    (p : Program) (there : Labels) (start : Start) (c : CallAt) (gs : List WaitingCall) (held new : Places)
    (s t : State) → StackIs p there start c gs held s → FrameIs c.extents c.owner (memory_bytes p s) c.sp c.depth c.own c.shape held →
    ((k : ℕ) → new (In k) ≡ held (In k)) → IsKept p c s t → StackIs p there start c gs new t
