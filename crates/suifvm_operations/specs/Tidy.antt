-- What a memory keeps along a run.
use Rattle.std.specs.Prelude.{◌≡◌, ℕ, ◌<◌, ◌^◌, false, length}
use Rattle.mem_model.specs.Memory.{Memory, object_at, no_object}

-- nothing is left of an object that has ended, and no object has 2 ^ 63 cells or more
pub record MemoryIsTidy (m : Memory) : Type 0 where
  pub gone : (id : ℕ) → (object_at m id).live ≡ false → object_at m id ≡ no_object
  pub small : (id : ℕ) → length (object_at m id).cells < 2 ^ 63
