-- A call is entered: its frame below that of the caller, its objects in it, and what it holds at its start.
use Rattle.std.specs.Prelude.{ℕ, suc, ◌+◌, ◌-◌, ◌<◌, ◌≤◌, nat_lt, List, [], ◌∷◌, ◌++◌, map, length, if◌then◌else◌}
use Rattle.alpha_isa.specs.declared.insn.BranchOp.TheVariants.{Bsr}
use Rattle.alpha_isa.specs.Program.{Program, stack_start, word_address}
use Rattle.alpha_isa.specs.State.{State}
use Rattle.alpha_items.specs.declared.item.AsmItem.{AsmItem}
use Rattle.alpha_items.specs.declared.item.AsmItem.TheVariants.{Branch}
use Rattle.alpha_items.specs.Words.{most_address}
use Rattle.frame_steps.specs.item_steps.Standing.{Labels, ItemsAt}
use Rattle.frame_steps.specs.item_steps.Steps.{Comes, Leaves}
use Rattle.mem_model.specs.World.{Outer}
use Rattle.machine_model.specs.Machine.{begin_locals}
use Rattle.mem_objects.specs.Layout.{place_after}
use Rattle.temp_ir.specs.declared.insn.TempInsn.TheVariants as i
use Rattle.alloc_model.specs.Contents.{Content}
use Rattle.alloc_model.specs.Stores.{empty, put_all}
use Rattle.alloc_model.specs.Effect.{entry_holders}
use Rattle.alloc_model.specs.Places.{Places, place_eq, home_of, places_read_at}
use Rattle.frame_memory.specs.Relation.{Extents, Owners}
use Rattle.frame_memory.specs.flat_frames.Shapes.{FrameShape, objects_at, frame_size, owner_at}
use Rattle.frame_steps.specs.frame_transfers.Laws.{CallAt, FitsTheStack, StandsFor}
use Rattle.frame_steps.specs.call_parts.Items.{entry_part}
use Rattle.frame_simulation.specs.call_stacks.InstructionItemsLaws.{is_usable, HasOuter}
use Rattle.frame_simulation.specs.call_stacks.Stacks.{WaitingCall, Start, StackIs}

-- what a call hands over, and what the called function holds at its start
abbrev pub call_contents : (function arguments : ℕ) → Places → List Content
call_contents function arguments held = map held (places_read_at [] (i.Call function arguments))

abbrev pub entry_places : List Content → Places
entry_places cs = put_all place_eq (map home_of (entry_holders (length cs))) cs empty

-- the extents of objects of these sizes, one behind the other
abbrev pub extents_from : (base : ℕ) → (sizes : List ℕ) → Extents
extents_from base [] = []
extents_from base (n ∷ sizes) = record { base = base; size = n } ∷ extents_from (base + place_after n) sizes

-- the frame of the called function is below that of the caller
abbrev pub called_sp : CallAt → FrameShape → ℕ
called_sp c s = c.sp - frame_size s

abbrev pub called_owner : CallAt → FrameShape → (own : ℕ) → Owners
called_owner c s own y =
    if nat_lt y (called_sp c s) then c.owner y
    else if nat_lt y c.sp then owner_at s (suc c.depth) own (y - called_sp c s) else c.owner y

abbrev pub called_frame : CallAt → FrameShape → (own : ℕ) → CallAt
called_frame c s own = record {
  extents = c.extents ++ extents_from (called_sp c s + objects_at s) s.sizes;
  owner = called_owner c s own;
  sp = called_sp c s;
  depth = suc c.depth;
  own = own;
  shape = s;
}

-- the call that waits meanwhile
abbrev pub waiting_call : CallAt → (held : Places) → (behind : List AsmItem) → (place end : ℕ) → WaitingCall
waiting_call c held behind place end =
    record { shape = c.shape; own = c.own; held = held; behind = behind; place = place; end = end }

-- the stack has room for the frame, and an argument place of the caller is near from it
pub record HasRoom (p : Program) (c : CallAt) (s : FrameShape) : Type 0 where
  pub room : stack_start p + frame_size s ≤ c.sp
  pub near : frame_size s + frame_size c.shape < most_address

-- the machine stands at the first item of the called function, for the called function; it came there by its label, to
-- which it went by a call behind which a word stands
pub record EntryIs (p : Program) (there : Labels) (start : Start) (body : List AsmItem) (last : ℕ) (c d : CallAt)
    (gs : List WaitingCall) (o : Outer) (held entry : Places) (rest : List AsmItem) (end : ℕ) (s : State) : Type 0 where
  pub to : State
  pub next : ℕ
  pub within : next ≤ length p.words
  pub left : State
  pub leaves : Leaves p (word_address next) s left
  pub some : 1 ≤ leaves.steps
  pub begins : word_address 0 ≤ left.pc
  pub comes : Comes p left to
  pub is_call : FitsTheStack d
  pub stands : StandsFor p there body last d (begin_locals o d.shape.sizes).memory is_usable entry to
  pub stack : StackIs p there start d (waiting_call c held rest next end ∷ gs) entry to
  pub outer : HasOuter (begin_locals o d.shape.sizes) to

abbrev pub CallsAreEntered : Type 0
CallsAreEntered =
    (p : Program) (there : Labels) (start : Start) (c : CallAt) (gs : List WaitingCall) (o : Outer) (held : Places)
    (rest : List AsmItem) (end : ℕ) (s : State) → FitsTheStack c → StackIs p there start c gs held s → HasOuter o s →
    (l function arguments : ℕ) (shape : FrameShape) (body : List AsmItem) (last : ℕ) →
    ItemsAt p there (there l) (entry_part shape shape.saves body) last → HasRoom p c shape →
    arguments ≤ c.shape.outgoing + 6 → StandsFor p there (Branch Bsr 26 l ∷ rest) end c o.memory is_usable held s →
    EntryIs p there start body last c (called_frame c shape (length o.memory)) gs o held
    (entry_places (call_contents function arguments held)) rest end s
