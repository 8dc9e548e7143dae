-- The objects so far have their places, and the next one begins where they end.
use Rattle.std.proofs.Common.{◌≡◌, ℕ, ◌+◌, length, get_or, map, take}
use Rattle.frame_memory.specs.flat_frames.Shapes.{bytes_before, objects_size}
use Rattle.frame_layout.proofs.shape.object_places.Given as goal

abbrev pub invariant-loop-object : goal.invariant-loop-object
invariant-loop-object l =
    (length l.places.items ≡ l.object-index)
    × (l.end ≡ l.start + objects_size (map (λ o. o.size) (take l.object-index l.objects)))
    × ((k : ℕ) → get_or l.places.items k l.end ≡ l.start + bytes_before (map (λ o. o.size) (take l.object-index l.objects)) k)
