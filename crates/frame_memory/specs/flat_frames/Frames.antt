-- When a frame on the stack stands for what a call holds in its slots and argument places, and for its objects.
use Rattle.std.specs.Prelude.{◌≡◌, ◌≢◌, ℕ, ◌+◌, ◌%◌, ◌^◌, ◌<◌, Bool, true, false, ◌==◌, ◌||◌, ◌&&◌, Some, slice_get}
use Rattle.alpha_isa.specs.State.{State, register}
use Rattle.mem_model.specs.Memory.{Memory}
use Rattle.alloc_model.specs.Contents.{Content}
use Rattle.alloc_model.specs.Stores.{put}
use Rattle.alloc_model.specs.Places.{Places, Reg, Slot, Out, place_eq}
use Rattle.frame_memory.specs.Bytes.{Bytes, bytes_from, put_bytes, low_bytes, number_from}
use Rattle.frame_memory.specs.Relation.{Extents, Owner, Owners, OfObject, OfFrame, Nobody, FramePiece, SlotPiece, ArgumentPiece, MemoryIs}
use Rattle.frame_memory.specs.flat_operations.Contents.{ContentIs}
use Rattle.frame_memory.specs.flat_frames.Shapes.{FrameShape, argument_at, slot_at, frame_object_at, frame_size, owner_at}

-- the word at an address, and the bytes with a word there
abbrev pub word_in : Bytes → (address : ℕ) → ℕ
word_in m a = number_from (bytes_from m a 8)

abbrev pub put_word : Bytes → (address word : ℕ) → Bytes
put_word m a w = put_bytes m a (low_bytes 8 w)

-- the frame of a call at a depth, from an address on
pub record FrameIs (xs : Extents) (owner : Owners) (m : Bytes) (sp depth own : ℕ) (s : FrameShape) (store : Places) :
    Type 0 where
  pub aligned : sp % 16 ≡ 0
  pub slots : (t : ℕ) → t < s.temps → ContentIs xs (store (Slot t)) (word_in m (sp + slot_at s t))
  pub outgoing : (k : ℕ) → k < s.outgoing → ContentIs xs (store (Out k)) (word_in m (sp + argument_at k))
  pub owned : (i : ℕ) → i < frame_size s → owner (sp + i) ≡ owner_at s depth own i
  pub objects : (k n : ℕ) → slice_get s.sizes k ≡ Some n →
      slice_get xs (own + k) ≡ Some (record { base = sp + frame_object_at s k; size = n })

-- bytes of objects alone may change
pub record KeepsFrames (owner : Owners) (m k : Bytes) : Type 0 where
  pub same : (y : ℕ) → ((o : ℕ) → owner y ≢ OfObject o) → k y ≡ m y

-- the instructions of a call write bytes of objects, of its slots and of its argument places, and what is nobody's may
-- change
abbrev pub is_written_piece : FramePiece → Bool
is_written_piece (SlotPiece t) = true
is_written_piece (ArgumentPiece k) = true
is_written_piece _ = false

abbrev pub is_written : (depth : ℕ) → Owner → Bool
is_written depth (OfObject o) = true
is_written depth (OfFrame other piece) = (other == depth) && is_written_piece piece
is_written depth Nobody = true

-- so all other bytes are as before: the return address, the saved registers, and what calls that wait own
abbrev pub KeepsUnwritten : Owners → (depth : ℕ) → (m k : Bytes) → Type 0
KeepsUnwritten owner depth m k = (y : ℕ) → is_written depth (owner y) ≡ false → k y ≡ m y

-- so frames stay
abbrev pub FramesStay : Type 0
FramesStay =
    (xs : Extents) (owner : Owners) (m k : Bytes) (sp depth own : ℕ) (s : FrameShape) (store : Places) →
    FrameIs xs owner m sp depth own s store → KeepsFrames owner m k → FrameIs xs owner k sp depth own s store

-- a word that is put where all bytes have one owner keeps the words that others own,
pub record WordIsOwned (owner : Owners) (a : ℕ) (whose : Owner) : Type 0 where
  pub owned : (i : ℕ) → i < 8 → owner (a + i) ≡ whose

abbrev pub WordsAreKept : Type 0
WordsAreKept =
    (owner : Owners) (m : Bytes) (a b w : ℕ) (mine other : Owner) → WordIsOwned owner a mine →
    WordIsOwned owner b other →
    mine ≢ other → word_in (put_word m a w) b ≡ word_in m b

-- and a frame with a word in a slot or an argument place stands for the call that holds its content there
pub record FrameAndMemory (xs : Extents) (memory : Memory) (owner : Owners) (m : Bytes) (sp depth own : ℕ)
    (s : FrameShape)
    (store : Places) : Type 0 where
  pub frame : FrameIs xs owner m sp depth own s store
  pub memory_is : MemoryIs xs memory owner m

abbrev pub SlotsArePut : Type 0
SlotsArePut =
    (xs : Extents) (memory : Memory) (owner : Owners) (m : Bytes) (sp depth own : ℕ) (s : FrameShape) (store : Places) →
    FrameAndMemory xs memory owner m sp depth own s store → (t : ℕ) (c : Content) (w : ℕ) → t < s.temps →
    w < 2 ^ 64 → ContentIs xs c w →
    FrameAndMemory xs memory owner (put_word m (sp + slot_at s t) w) sp depth own s (put place_eq (Slot t) c store)

abbrev pub ArgumentsArePut : Type 0
ArgumentsArePut =
    (xs : Extents) (memory : Memory) (owner : Owners) (m : Bytes) (sp depth own : ℕ) (s : FrameShape) (store : Places) →
    FrameAndMemory xs memory owner m sp depth own s store → (k : ℕ) (c : Content) (w : ℕ) → k < s.outgoing →
    w < 2 ^ 64 → ContentIs xs c w →
    FrameAndMemory xs memory owner (put_word m (sp + argument_at k) w) sp depth own s (put place_eq (Out k) c store)

-- the registers of a state that are known to stand for what the call holds there
abbrev pub RegistersAre : Extents → (known : ℕ → Bool) → Places → State → Type 0
RegistersAre xs known store s = (r : ℕ) → known r ≡ true → ContentIs xs (store (Reg r)) (register s r)

abbrev pub with_known : (ℕ → Bool) → ℕ → ℕ → Bool
with_known known r q = (q == r) || known q

-- a state with another word in one register
abbrev pub RegistersArePut : Type 0
RegistersArePut =
    (xs : Extents) (known : ℕ → Bool) (store : Places) (s t : State) (r : ℕ) (c : Content) →
    RegistersAre xs known store s → ((q : ℕ) → known q ≡ true → q ≢ r → register t q ≡ register s q) →
    ContentIs xs c (register t r) →
    RegistersAre xs (with_known known r) (put place_eq (Reg r) c store) t
