-- What the machine does at the items of transfers.
use Rattle.std.specs.Prelude.{◌≡◌, ◌≢◌, ℕ, ◌+◌, ◌^◌, ◌<◌, ◌≤◌, Bool, true, false, List, [], ◌∷◌}
use Rattle.alpha_isa.specs.Program.{Program}
use Rattle.alpha_isa.specs.State.{State, register}
use Rattle.alpha_items.specs.declared.item.AsmItem.{AsmItem}
use Rattle.alpha_items.specs.Words.{most_address}
use Rattle.frame_steps.specs.item_steps.Standing.{Labels}
use Rattle.frame_steps.specs.item_steps.Steps.{Comes}
use Rattle.mem_model.specs.Memory.{Memory}
use Rattle.alloc_model.specs.declared.allocation.Transfer.{Transfer}
use Rattle.alloc_model.specs.declared.allocation.Transfer.TheVariants.{Store, Load, Shift}
use Rattle.alloc_model.specs.Places.{Places, do_all}
use Rattle.frame_memory.specs.Relation.{Extents, Owners, Nobody}
use Rattle.frame_memory.specs.Machine.{memory_bytes, is_reached}
use Rattle.frame_memory.specs.flat_frames.Shapes.{FrameShape, frame_size}
use Rattle.frame_memory.specs.flat_frames.Frames.{FrameAndMemory, RegistersAre, with_known, KeepsUnwritten}
use Rattle.frame_steps.specs.frame_accesses.Laws.{IsAt, IsValueRegister}
use Rattle.frame_steps.specs.frame_transfers.Items.{items_of_transfers}

-- whose bytes there are, and where the frame of a call stands: at an address and a depth, with the number of its first
-- object and a shape
pub record CallAt : Type 0 where
  pub extents : Extents
  pub owner : Owners
  pub sp : ℕ
  pub depth : ℕ
  pub own : ℕ
  pub shape : FrameShape

-- a frame that the stack may hold
pub record FitsTheStack (c : CallAt) : Type 0 where
  pub small : c.sp + frame_size c.shape < 2 ^ 64
  pub near : frame_size c.shape < most_address

-- the machine stands at the first of some items, and for a call with what it holds, where a memory is as it is
pub record StandsFor (p : Program) (there : Labels) (items : List AsmItem) (end : ℕ) (c : CallAt) (memory : Memory)
    (known : ℕ → Bool) (store : Places) (s : State) : Type 0 where
  pub word : ℕ
  pub is_at : IsAt p there word items end s
  pub stack : register s 30 ≡ c.sp
  pub frame : FrameAndMemory c.extents memory c.owner (memory_bytes p s) c.sp c.depth c.own c.shape store
  pub registers : RegistersAre c.extents known store s
  pub reached : (y : ℕ) → c.owner y ≢ Nobody → is_reached p s y ≡ true

-- values stand in registers below 29
abbrev pub KnowsValues : (known : ℕ → Bool) → Type 0
KnowsValues known = (r : ℕ) → known r ≡ true → IsValueRegister r

-- a register that a function may write: it saves the one that its caller keeps there
pub record IsWritable (s : FrameShape) (r : ℕ) : Type 0 where
  pub value : IsValueRegister r
  pub saved : 9 ≤ r → r < 16 → s.saves r ≡ true

-- the registers that are known behind a transfer, and behind several
abbrev pub known_after : Transfer → (ℕ → Bool) → ℕ → Bool
known_after (Store t r) known = known
known_after (Load t r) known = with_known known r
known_after (Shift t from to) known = with_known known to

abbrev pub known_behind : List Transfer → (ℕ → Bool) → ℕ → Bool
known_behind [] known = known
known_behind (x ∷ xs) known = known_behind xs (known_after x known)

-- what is read is known, and what is named is there
abbrev pub CanTransfer : FrameShape → (known : ℕ → Bool) → Transfer → Type 0
CanTransfer s known (Store t r) = (t < s.temps) × (known r ≡ true)
CanTransfer s known (Load t r) = (t < s.temps) × IsWritable s r
CanTransfer s known (Shift t from to) = (known from ≡ true) × IsWritable s to

abbrev pub CanTransferAll : FrameShape → (known : ℕ → Bool) → List Transfer → Type 0
CanTransferAll s known [] = Unit {0}
CanTransferAll s known (x ∷ xs) = CanTransfer s known x × CanTransferAll s (known_after x known) xs

-- what may be accessed is as before, and so are the bytes that no instruction of the call writes, and the registers of
-- the caller that the function does not save
pub record IsKept (p : Program) (c : CallAt) (s t : State) : Type 0 where
  pub reach : (y : ℕ) → is_reached p t y ≡ is_reached p s y
  pub bytes : KeepsUnwritten c.owner c.depth (memory_bytes p s) (memory_bytes p t)
  pub registers : (q : ℕ) → 9 ≤ q → q < 16 → c.shape.saves q ≡ false → register t q ≡ register s q

-- the machine has come to other items, for other contents of the call
pub record HasDone (p : Program) (there : Labels) (rest : List AsmItem) (end : ℕ) (c : CallAt) (memory : Memory)
    (known : ℕ → Bool) (store : Places) (s : State) : Type 0 where
  pub to : State
  pub comes : Comes p s to
  pub stands : StandsFor p there rest end c memory known store to
  pub knows : KnowsValues known
  pub input : to.input ≡ s.input
  pub output : to.output ≡ s.output
  pub kept : IsKept p c s to

abbrev pub TransfersAreDone : Type 0
TransfersAreDone =
    (p : Program) (there : Labels) (rest : List AsmItem) (end : ℕ) (c : CallAt) (memory : Memory) → FitsTheStack c →
    (xs : List Transfer) (known : ℕ → Bool) (store : Places) (s : State) → KnowsValues known →
    CanTransferAll c.shape known xs →
    StandsFor p there (items_of_transfers c.shape xs rest) end c memory known store s →
    HasDone p there rest end c memory (known_behind xs known) (do_all xs store) s
