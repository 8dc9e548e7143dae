-- The size of a frame is a sum of its pieces.
use Rattle.std.proofs.Common.{◌≡◌, ℕ, zero, suc, ◌+◌, ◌*◌, ◌/◌, ◌%◌, ◌≤◌, List, [], ◌∷◌, refl, arith}
use Rattle.alloc_model.specs.Effect.{widest_call}
use Rattle.alloc_model.specs.Places.{Plan}
use Rattle.frame_memory.specs.flat_frames.Shapes.{frame_size, bytes_before, frame_object_at, objects_size}
use Rattle.frame_emitter.specs.Shapes.{shape_of}

pub fits_room : (a : Plan) (weight bytes : ℕ) → a.temps ≤ 7 * weight + 16 → widest_call a.function.blocks ≤ weight →
    objects_size a.function.sizes ≤ bytes → frame_size (shape_of a) + 32 ≤ 256 + 64 * weight + bytes
fits_room a weight bytes temps arguments objects = omega (arith, temps, arguments, objects)

pub is_few : (a : Plan) → frame_size (shape_of a) ≤ (8 * a.temps + 8 * widest_call a.function.blocks + objects_size a.function.sizes + 64 + 15) / 16 * 16
is_few a = omega arith

pub is_whole : (a : Plan) → frame_size (shape_of a) % 16 ≡ 0
is_whole a = omega arith

bytes-aligned : (sizes : List ℕ) (k : ℕ) → bytes_before sizes k % 8 ≡ 0
bytes-aligned sizes zero = refl
bytes-aligned [] (suc k) = refl
bytes-aligned (n ∷ sizes) (suc k) = let h = bytes-aligned sizes k in omega (arith, h)

pub is_aligned : (a : Plan) (k : ℕ) → frame_object_at (shape_of a) k % 8 ≡ 0
is_aligned a k = let h = bytes-aligned a.function.sizes k in omega (arith, h)
