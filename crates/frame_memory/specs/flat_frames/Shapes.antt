-- How the frame of a function is laid out, in bytes from register 30 on: the argument places of its calls, the return
-- address, places for the registers 9 to 15, the slots of its temporaries, and its objects, each at a multiple of 8.
use Rattle.std.specs.Prelude.{◌≡◌, ℕ, zero, suc, ◌+◌, ◌-◌, ◌*◌, ◌/◌, ◌%◌, ◌<◌, ◌≤◌, nat_lt, Bool, List, [], ◌∷◌, length, Some, slice_get, if◌then◌else◌}
use Rattle.mem_objects.specs.Layout.{place_after}
use Rattle.frame_memory.specs.Relation.{Owner, OfObject, OfFrame, SlotPiece, ReturnPiece, SavedPiece, ArgumentPiece, NoPiece}

-- how many argument places and temporaries a function has, the sizes of its objects, and which registers it saves of 9
-- to 15
pub record FrameShape : Type 0 where
  pub outgoing : ℕ
  pub temps : ℕ
  pub sizes : List ℕ
  pub saves : (register : ℕ) → Bool

-- ---- offsets

abbrev pub argument_at : (number : ℕ) → ℕ
argument_at k = 8 * k

abbrev pub return_at : FrameShape → ℕ
return_at s = 8 * s.outgoing

abbrev pub saved_at : FrameShape → (register : ℕ) → ℕ
saved_at s r = 8 * s.outgoing + 8 + 8 * (r - 9)

abbrev pub slot_at : FrameShape → (temporary : ℕ) → ℕ
slot_at s t = 8 * s.outgoing + 64 + 8 * t

abbrev pub objects_at : FrameShape → ℕ
objects_at s = 8 * s.outgoing + 64 + 8 * s.temps

-- the bytes of so many objects, each up to a multiple of 8
abbrev pub bytes_before : (sizes : List ℕ) → (count : ℕ) → ℕ
bytes_before sizes zero = 0
bytes_before [] (suc k) = 0
bytes_before (n ∷ sizes) (suc k) = place_after n + bytes_before sizes k

abbrev pub frame_object_at : FrameShape → (number : ℕ) → ℕ
frame_object_at s k = objects_at s + bytes_before s.sizes k

abbrev pub objects_size : (sizes : List ℕ) → ℕ
objects_size sizes = bytes_before sizes (length sizes)

-- the size of a frame, a multiple of 16
abbrev pub frame_size : FrameShape → ℕ
frame_size s = (objects_at s + objects_size s.sizes + 15) / 16 * 16

-- ---- owners

-- whose byte stands at an offset behind the first object, which has a number
abbrev pub object_owner : (depth number : ℕ) → (sizes : List ℕ) → (offset : ℕ) → Owner
object_owner depth number [] i = OfFrame depth NoPiece
object_owner depth number (n ∷ sizes) i =
    if nat_lt i n then OfObject number
    else if nat_lt i (place_after n) then OfFrame depth NoPiece
    else object_owner depth (suc number) sizes (i - place_after n)

-- whose byte stands at an offset in the frame of a call at a depth, whose first object has a number
abbrev pub owner_at : FrameShape → (depth own : ℕ) → (offset : ℕ) → Owner
owner_at s depth own i =
    if nat_lt i (8 * s.outgoing) then OfFrame depth (ArgumentPiece (i / 8))
    else if nat_lt i (8 * s.outgoing + 8) then OfFrame depth ReturnPiece
    else if nat_lt i (8 * s.outgoing + 64) then OfFrame depth (SavedPiece (9 + (i - (8 * s.outgoing + 8)) / 8))
    else if nat_lt i (objects_at s) then OfFrame depth (SlotPiece ((i - (8 * s.outgoing + 64)) / 8))
    else object_owner depth own s.sizes (i - objects_at s)

-- bytes of a frame from an offset on have one owner
pub record IsPiece (s : FrameShape) (depth own at size : ℕ) (whose : Owner) : Type 0 where
  pub within : at + size ≤ frame_size s
  pub owned : (i : ℕ) → i < size → owner_at s depth own (at + i) ≡ whose

-- the pieces of a frame lie apart, since each byte has one owner
pub record PiecesOf (s : FrameShape) (depth own : ℕ) : Type 0 where
  pub arguments : (k : ℕ) → k < s.outgoing → IsPiece s depth own (argument_at k) 8 (OfFrame depth (ArgumentPiece k))
  pub returns : IsPiece s depth own (return_at s) 8 (OfFrame depth ReturnPiece)
  pub saved : (r : ℕ) → 9 ≤ r → r < 16 → IsPiece s depth own (saved_at s r) 8 (OfFrame depth (SavedPiece r))
  pub slots : (t : ℕ) → t < s.temps → IsPiece s depth own (slot_at s t) 8 (OfFrame depth (SlotPiece t))
  pub objects : (k n : ℕ) → slice_get s.sizes k ≡ Some n
      → IsPiece s depth own (frame_object_at s k) n (OfObject (own + k))

abbrev pub PiecesLieApart : Type 0
PiecesLieApart = (s : FrameShape) (depth own : ℕ) → PiecesOf s depth own

-- a frame has at most the bytes of its slots, argument places and objects and 64 more, up to a multiple of 16
pub record IsSmallFrame (s : FrameShape) : Type 0 where
  pub whole : frame_size s % 16 ≡ 0
  pub least : 64 ≤ frame_size s
  pub most : frame_size s ≤ (8 * s.temps + 8 * s.outgoing + objects_size s.sizes + 64 + 15) / 16 * 16

abbrev pub FramesAreSmall : Type 0
FramesAreSmall = (s : FrameShape) → IsSmallFrame s
