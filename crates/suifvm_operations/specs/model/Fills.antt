-- An object that is being filled from its front.
use Rattle.std.specs.Prelude.{◌≡◌, ℕ, ◌-◌, Bool, true, List, [], ◌∷◌, ◌++◌, length, replicate}
use Rattle.mem_model.specs.declared.value.Cell.{Cell}
use Rattle.mem_model.specs.declared.value.Cell.TheVariants.{Empty}
use Rattle.mem_model.specs.Memory.{Object, Memory}
use Rattle.suifvm_operations.specs.Tidy.{MemoryIsTidy}

-- its front holds cells, and the rest was never written
abbrev pub with_front : (writable : Bool) → (size : ℕ) → (front : List Cell) → Object
with_front writable size front =
    record { live = true; writable = writable; cells = front ++ replicate (size - length front) Empty }

-- a row was put into the last object, from a place on: where the front ended there, it is longer by the row
pub record Adds (old new : Memory) (object at : ℕ) (row : List Cell) : Type 0 where
  pub fronts : (before : Memory) (writable : Bool) (size : ℕ) (front : List Cell) →
      object ≡ length before → at ≡ length front → old ≡ before ++ with_front writable size front ∷ [] →
      new ≡ before ++ with_front writable size (front ++ row) ∷ []
  pub tidy : MemoryIsTidy new
