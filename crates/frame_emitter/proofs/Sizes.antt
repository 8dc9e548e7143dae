-- The pieces of a frame lie within it, so their places are near.
use Rattle.std.proofs.Common.{◌≡◌, ℕ, ◌+◌, ◌*◌, ◌^◌, ◌<◌, ◌≤◌, arith}
use Rattle.alpha_items.specs.Words.{most_address}
use Rattle.frame_memory.specs.flat_frames.Shapes.{FrameShape, frame_size, slot_at}

pub slot_near : (s : FrameShape) (size t : ℕ) → size ≡ frame_size s → size ≤ 2 ^ 29 → t < s.temps → slot_at s t < most_address
slot_near s size t is small lt = omega (arith, is, small, lt)

pub return_near : (s : FrameShape) (size : ℕ) → size ≡ frame_size s → size ≤ 2 ^ 29 → 8 * s.outgoing + 64 < most_address
return_near s size is small = omega (arith, is, small)
