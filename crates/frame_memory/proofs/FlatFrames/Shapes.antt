-- The pieces of a frame.
use Rattle.std.proofs.Common.{◌≡◌, ℕ, zero, suc, ◌+◌, ◌-◌, ◌*◌, ◌/◌, ◌<◌, ◌≤◌, List, [], ◌∷◌, length, Some, ap, ◌∙◌, arith}
use Rattle.std.specs.Prelude.{nat_lt, slice_get, if◌then◌else◌}
use Rattle.std.proofs.lemmas.Bool.{lt-ltb, le-ltb, cond-true, cond-false}
use Rattle.mem_objects.specs.Layout.{place_after}
use Rattle.frame_memory.specs.Relation.{OfObject, OfFrame, SlotPiece, ReturnPiece, SavedPiece, ArgumentPiece}
use Rattle.frame_memory.specs.flat_frames.Shapes.{FrameShape, argument_at, return_at, saved_at, slot_at, objects_at, bytes_before, frame_object_at, objects_size, object_owner, owner_at, IsPiece, PiecesOf, IsSmallFrame}

-- ---- objects

object-within : (sizes : List ℕ) (k n : ℕ) → slice_get sizes k ≡ Some n → bytes_before sizes k + n ≤ bytes_before sizes (length sizes)
object-within [] k n e = absurd (cc)
object-within (m ∷ sizes) zero n e = let is : m ≡ n = cc in omega (arith, is)
object-within (m ∷ sizes) (suc k) n e = let h = object-within sizes k n e in omega (arith, h)

object-owned : (sizes : List ℕ) (depth number k n i : ℕ) → slice_get sizes k ≡ Some n → i < n → object_owner depth number sizes (bytes_before sizes k + i) ≡ OfObject (number + k)
object-owned [] depth number k n i e lt = absurd (cc)
object-owned (m ∷ sizes) depth number zero n i e lt =
    let is : m ≡ n = cc in
    let same : number ≡ number + 0 = omega arith in
    cond-true (nat_lt (0 + i) m) _ _ (lt-ltb (0 + i) m (omega (arith, is))) ∙ ap OfObject same
object-owned (m ∷ sizes) depth number (suc k) n i e lt =
    let off = place_after m + bytes_before sizes k + i in
    let rest : off - place_after m ≡ bytes_before sizes k + i = omega arith in
    let same : suc number + k ≡ number + suc k = omega arith in
    cond-false (nat_lt off m) _ _ (le-ltb off m (omega arith))
    ∙ cond-false (nat_lt off (place_after m)) _ _ (le-ltb off (place_after m) (omega arith))
    ∙ ap (object_owner depth (suc number) sizes) rest
    ∙ object-owned sizes depth (suc number) k n i e lt
    ∙ ap OfObject same

module _ (s : FrameShape) (depth own : ℕ) where
  -- an offset behind the first pieces of a frame
  behind_arguments : (i : ℕ) → 8 * s.outgoing ≤ i → owner_at s depth own i ≡ (if nat_lt i (8 * s.outgoing + 8) then OfFrame depth ReturnPiece
      else if nat_lt i (8 * s.outgoing + 64) then OfFrame depth (SavedPiece (9 + (i - (8 * s.outgoing + 8)) / 8))
      else if nat_lt i (objects_at s) then OfFrame depth (SlotPiece ((i - (8 * s.outgoing + 64)) / 8))
      else object_owner depth own s.sizes (i - objects_at s))
  behind_arguments i le = cond-false (nat_lt i (8 * s.outgoing)) _ _ (le-ltb i (8 * s.outgoing) le)

  behind_return : (i : ℕ) → 8 * s.outgoing + 8 ≤ i → owner_at s depth own i ≡ (if nat_lt i (8 * s.outgoing + 64) then OfFrame depth (SavedPiece (9 + (i - (8 * s.outgoing + 8)) / 8))
      else if nat_lt i (objects_at s) then OfFrame depth (SlotPiece ((i - (8 * s.outgoing + 64)) / 8))
      else object_owner depth own s.sizes (i - objects_at s))
  behind_return i le = behind_arguments i (omega arith) ∙ cond-false (nat_lt i (8 * s.outgoing + 8)) _ _ (le-ltb i (8 * s.outgoing + 8) le)

  behind_saved : (i : ℕ) → 8 * s.outgoing + 64 ≤ i → owner_at s depth own i ≡ (if nat_lt i (objects_at s) then OfFrame depth (SlotPiece ((i - (8 * s.outgoing + 64)) / 8))
      else object_owner depth own s.sizes (i - objects_at s))
  behind_saved i le = behind_return i (omega arith) ∙ cond-false (nat_lt i (8 * s.outgoing + 64)) _ _ (le-ltb i (8 * s.outgoing + 64) le)

  behind_slots : (i : ℕ) → objects_at s ≤ i → owner_at s depth own i ≡ object_owner depth own s.sizes (i - objects_at s)
  behind_slots i le = behind_saved i (omega arith) ∙ cond-false (nat_lt i (objects_at s)) _ _ (le-ltb i (objects_at s) le)

  argument-piece : (k : ℕ) → k < s.outgoing → IsPiece s depth own (argument_at k) 8 (OfFrame depth (ArgumentPiece k))
  argument-piece k lt = record {
    within = omega arith;
    owned = λ i small.
        let is : (8 * k + i) / 8 ≡ k = omega arith in
        cond-true (nat_lt (8 * k + i) (8 * s.outgoing)) _ _ (lt-ltb (8 * k + i) (8 * s.outgoing) (omega arith)) ∙ ap (λ j. OfFrame depth (ArgumentPiece j)) is;
  }

  return-piece : IsPiece s depth own (return_at s) 8 (OfFrame depth ReturnPiece)
  return-piece = record {
    within = omega arith;
    owned = λ i small.
        behind_arguments (8 * s.outgoing + i) (omega arith)
        ∙ cond-true (nat_lt (8 * s.outgoing + i) (8 * s.outgoing + 8)) _ _ (lt-ltb (8 * s.outgoing + i) (8 * s.outgoing + 8) (omega arith));
  }

  saved-piece : (r : ℕ) → 9 ≤ r → r < 16 → IsPiece s depth own (saved_at s r) 8 (OfFrame depth (SavedPiece r))
  saved-piece r from to = record {
    within = omega arith;
    owned = λ i small.
        let at = saved_at s r + i in
        let is : 9 + (at - (8 * s.outgoing + 8)) / 8 ≡ r = omega arith in
        behind_return at (omega arith)
        ∙ cond-true (nat_lt at (8 * s.outgoing + 64)) _ _ (lt-ltb at (8 * s.outgoing + 64) (omega arith))
        ∙ ap (λ j. OfFrame depth (SavedPiece j)) is;
  }

  slot-piece : (t : ℕ) → t < s.temps → IsPiece s depth own (slot_at s t) 8 (OfFrame depth (SlotPiece t))
  slot-piece t lt = record {
    within = omega arith;
    owned = λ i small.
        let at = slot_at s t + i in
        let is : (at - (8 * s.outgoing + 64)) / 8 ≡ t = omega arith in
        behind_saved at (omega arith)
        ∙ cond-true (nat_lt at (objects_at s)) _ _ (lt-ltb at (objects_at s) (omega arith))
        ∙ ap (λ j. OfFrame depth (SlotPiece j)) is;
  }

  object-piece : (k n : ℕ) → slice_get s.sizes k ≡ Some n → IsPiece s depth own (frame_object_at s k) n (OfObject (own + k))
  object-piece k n e = record {
    within = let h = object-within s.sizes k n e in omega (arith, h);
    owned = λ i small.
        let rest : frame_object_at s k + i - objects_at s ≡ bytes_before s.sizes k + i = omega arith in
        behind_slots (frame_object_at s k + i) (omega arith) ∙ ap (object_owner depth own s.sizes) rest ∙ object-owned s.sizes depth own k n i e small;
  }

  pub pieces_of : PiecesOf s depth own
  pieces_of = record {
    arguments = argument-piece;
    returns = return-piece;
    saved = saved-piece;
    slots = slot-piece;
    objects = object-piece;
  }

pub frames_are_small : (s : FrameShape) → IsSmallFrame s
frames_are_small s = record {
  whole = omega arith;
  least = omega arith;
  most = let e : objects_at s + objects_size s.sizes + 15 ≡ 8 * s.temps + 8 * s.outgoing + objects_size s.sizes + 64 + 15 = omega arith in
      omega (arith, e);
}
