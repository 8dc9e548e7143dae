-- The frames of the calls that wait for another one, which stand above the frame of that, and what has to stay of their
-- bytes.
use Rattle.std.specs.Prelude.{◌≡◌, ◌≢◌, ℕ, ◌+◌, ◌<◌, ◌≤◌, true, false, List, [], ◌∷◌, length, if◌then◌else◌}
use Rattle.alpha_isa.specs.Program.{Program, stack_start, word_address}
use Rattle.alpha_isa.specs.State.{State, register}
use Rattle.alpha_items.specs.declared.item.AsmItem.{AsmItem}
use Rattle.frame_steps.specs.item_steps.Standing.{Labels, ItemsAt}
use Rattle.alloc_model.specs.Places.{Places, Reg}
use Rattle.frame_memory.specs.Bytes.{Bytes}
use Rattle.frame_memory.specs.Relation.{Extents, Owners, Nobody}
use Rattle.frame_memory.specs.Machine.{memory_bytes, is_reached}
use Rattle.frame_memory.specs.flat_operations.Contents.{ContentIs}
use Rattle.frame_memory.specs.flat_frames.Shapes.{FrameShape, frame_size, return_at, saved_at}
use Rattle.frame_memory.specs.flat_frames.Frames.{word_in, FrameIs, is_written}
use Rattle.frame_steps.specs.frame_transfers.Laws.{CallAt}
use Rattle.frame_steps.specs.instruction_items.Laws.{ArgumentsAre}

-- a call that waits: the shape of its frame, the number of its first object, what it holds once the transfers before
-- its call are done, and the items behind its call with the word at which they stand
pub record WaitingCall : Type 0 where
  pub shape : FrameShape
  pub own : ℕ
  pub held : Places
  pub behind : List AsmItem
  pub place : ℕ
  pub end : ℕ

-- the frame of a call that waits, at an address, with so many calls that wait above it
abbrev pub call_frame : Extents → Owners → (sp depth : ℕ) → WaitingCall → CallAt
call_frame xs owner sp depth g =
    record { extents = xs; owner = owner; sp = sp; depth = depth; own = g.own; shape = g.shape }

-- a word is the address of a place where items stand
pub record IsReturn (p : Program) (there : Labels) (word : ℕ) (items : List AsmItem) (end : ℕ) : Type 0 where
  pub place : ℕ
  pub is : word ≡ word_address place
  pub items_at : ItemsAt p there place items end

-- it is that of the place behind a call that waits
pub record IsBehind (p : Program) (there : Labels) (word : ℕ) (g : WaitingCall) : Type 0 where
  pub is : word ≡ word_address g.place
  pub items_at : ItemsAt p there g.place g.behind g.end

-- what the registers 9 to 15 were before a function was called: where it saves them its frame has them, else they are
-- what they are behind it
abbrev pub view_above : Bytes → (sp : ℕ) → FrameShape → (view : ℕ → ℕ) → (register : ℕ) → ℕ
view_above m sp s view r = if s.saves r then word_in m (sp + saved_at s r) else view r

-- they stand for what the call holds in them
abbrev pub KeptAre : Extents → Places → (view : ℕ → ℕ) → Type 0
KeptAre xs held view = (r : ℕ) → 9 ≤ r → r < 16 → ContentIs xs (held (Reg r)) (view r)

-- a call waits with its frame at an address
pub record WaitsAt (xs : Extents) (owner : Owners) (m : Bytes) (sp depth : ℕ) (g : WaitingCall) : Type 0 where
  pub frame : FrameIs xs owner m sp depth g.own g.shape g.held
  pub arguments : ArgumentsAre (call_frame xs owner sp depth g) g.held m

-- where the first call of a run returns to, and the end of the stack
pub record Start : Type 0 where
  pub behind : List AsmItem
  pub end : ℕ
  pub top : ℕ

-- calls wait above the frame of another one, the last one first; the view is that of the registers before that one was
-- called
abbrev pub CallersAre : Program → Labels → Start → Extents → Owners → Bytes → (view : ℕ → ℕ) → (sp : ℕ) → FrameShape →
    List WaitingCall → Type 0
CallersAre p there start xs owner m view sp s [] =
    (sp + frame_size s ≡ start.top) × IsReturn p there (word_in m (sp + return_at s)) start.behind start.end
CallersAre p there start xs owner m view sp s (g ∷ gs) =
    IsBehind p there (word_in m (sp + return_at s)) g
    × KeptAre xs g.held view
    × WaitsAt xs owner m (sp + frame_size s) (length gs) g
    × CallersAre p there start xs owner m (view_above m (sp + frame_size s) g.shape view) (sp + frame_size s) g.shape gs

-- the stack of a run: the call that goes on, and those that wait
pub record StackIs (p : Program) (there : Labels) (start : Start) (c : CallAt) (callers : List WaitingCall)
    (held : Places) (s : State) : Type 0 where
  pub depth : c.depth ≡ length callers
  pub callers_are : CallersAre p there start c.extents c.owner (memory_bytes p s)
      (view_above (memory_bytes p s) c.sp c.shape (register s)) c.sp c.shape callers
  pub arguments : ArgumentsAre c held (memory_bytes p s)
  -- below the frame the stack is nobody's, and all of it may be accessed
  pub free : (y : ℕ) → stack_start p ≤ y → y < c.sp → c.owner y ≡ Nobody
  pub reached : (y : ℕ) → stack_start p ≤ y → y < start.top → is_reached p s y ≡ true

-- ---- what has to stay

-- from a bound on bytes keep their owners, and keep what they are where no instruction of a call at a depth writes them
pub record KeepsCallers (depth bound : ℕ) (owner new : Owners) (m k : Bytes) : Type 0 where
  pub owners : (y : ℕ) → bound ≤ y → owner y ≢ Nobody → new y ≡ owner y
  pub bytes : (y : ℕ) → bound ≤ y → owner y ≢ Nobody → is_written depth (owner y) ≡ false → k y ≡ m y
