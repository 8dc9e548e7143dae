-- Types as plain data.
use Rattle.std.specs.Prelude.{ℕ, Bool}

-- an integer type has its bytes and whether it is signed, an array its number of elements, a struct its number
pub data PlainType : Type 0 where
  Void : PlainType
  Int : (bytes : ℕ) → (signed : Bool) → PlainType
  Pointer : PlainType → PlainType
  Array : PlainType → (length : ℕ) → PlainType
  Struct : (number : ℕ) → PlainType
