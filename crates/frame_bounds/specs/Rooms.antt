-- How large the frame of an allocation is at most.
use Rattle.std.specs.Prelude.{◌≡◌, ℕ, ◌+◌, ◌*◌, ◌/◌, ◌%◌, ◌≤◌}
use Rattle.alloc_model.specs.Effect.{widest_call}
use Rattle.alloc_model.specs.Places.{Plan}
use Rattle.frame_memory.specs.flat_frames.Shapes.{frame_size, frame_object_at, objects_size}
use Rattle.frame_emitter.specs.Shapes.{shape_of}

-- a room is 256 bytes, 64 for each unit of the weight of its function, and those of its memory locals, each up to a
-- multiple of 8
abbrev pub PlansFitRooms : Type 0
PlansFitRooms =
    (a : Plan) (weight bytes : ℕ) → a.temps ≤ 7 * weight + 16 → widest_call a.function.blocks ≤ weight →
    objects_size a.function.sizes ≤ bytes → frame_size (shape_of a) + 32 ≤ 256 + 64 * weight + bytes

abbrev pub FramesAreFew : Type 0
FramesAreFew =
    (a : Plan) → frame_size (shape_of a) ≤ (8 * a.temps + 8 * widest_call a.function.blocks
    + objects_size a.function.sizes + 64 + 15) / 16 * 16

abbrev pub FramesAreWhole : Type 0
FramesAreWhole = (a : Plan) → frame_size (shape_of a) % 16 ≡ 0

abbrev pub ObjectsAreAligned : Type 0
ObjectsAreAligned = (a : Plan) (k : ℕ) → frame_object_at (shape_of a) k % 8 ≡ 0
