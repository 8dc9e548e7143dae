-- Two memories whose objects have other numbers: how values and cells correspond, as those of a program, whose
-- objects live as long as their blocks, and of its code, whose objects live as long as the call.
use Rattle.std.specs.Prelude.{◌≡◌, ◌≢◌, ◌==◌, ◌<◌, ℕ, true, List, [], ◌∷◌, length, Option, Some, if◌then◌else◌}
use Rattle.mem_model.specs.Memory.{Memory, Object, object_at}
use Rattle.mem_model.specs.declared.value.Ptr.{Ptr}
use Rattle.mem_model.specs.declared.value.Value.{Value}
use Rattle.mem_model.specs.declared.value.Value.TheVariants.{Word, Address, Unset}
use Rattle.mem_model.specs.declared.value.Cell.{Cell}
use Rattle.mem_model.specs.declared.value.Cell.TheVariants.{Empty, Byte, Part}

-- which object of the second memory stands for an object of the first
abbrev pub Names : Type 0
Names = ℕ → Option ℕ

-- the second pointer stands for the first
pub record IsPointerOf (f : Names) (p q : Ptr) : Type 0 where
  pub object : f p.object ≡ Some q.object
  pub offset : q.offset ≡ p.offset

-- the second value stands for the first: anything for one that is unset
abbrev pub IsValueOf : Names → Value → Value → Type 0
IsValueOf f (Word n) w = w ≡ Word n
IsValueOf f (Address p) w = (q : Ptr) × (w ≡ Address q) × IsPointerOf f p q
IsValueOf f Unset w = Unit {0}

-- the second cell stands for the first: anything for one that is empty
abbrev pub IsCellOf : Names → Cell → Cell → Type 0
IsCellOf f Empty d = Unit {0}
IsCellOf f (Byte b) d = d ≡ Byte b
IsCellOf f (Part p k) d = (q : Ptr) × (d ≡ Part q k) × IsPointerOf f p q

abbrev pub IsRowOf : Names → List Cell → List Cell → Type 0
IsRowOf f [] [] = Unit {0}
IsRowOf f (c ∷ cs) (d ∷ ds) = IsCellOf f c d × IsRowOf f cs ds
IsRowOf f _ _ = ⊥

-- an object of the second memory stands for one of the first, which has a number
pub record IsObjectOf (f : Names) (n : Memory) (x : Object) (o : ℕ) : Type 0 where
  pub name : ℕ
  pub named : f o ≡ Some name
  pub lives : (object_at n name).live ≡ true
  pub writable : (object_at n name).writable ≡ x.writable
  pub cells : IsRowOf f x.cells (object_at n name).cells

-- the second memory stands for the first: an object stands for each live one, no one for two, and none for what was
-- not made yet
pub record IsMemoryOf (f : Names) (m n : Memory) : Type 0 where
  pub each : (o : ℕ) → (object_at m o).live ≡ true → IsObjectOf f n (object_at m o) o
  pub apart : (o p q : ℕ) → (object_at m o).live ≡ true → (object_at m p).live ≡ true → f o ≡ Some q → f p ≡ Some q
      → o ≡ p
  pub known : (o q : ℕ) → f o ≡ Some q → o < length m

-- one name more
abbrev pub with_name : Names → (o q : ℕ) → Names
with_name f o q = λ p. if p == o then Some q else f p

-- no live object has this name
abbrev pub IsFreeName : Names → Memory → (q : ℕ) → Type 0
IsFreeName f m q = (o : ℕ) → (object_at m o).live ≡ true → f o ≢ Some q

-- a live object that may be written, of a size
pub record IsLocal (n : Memory) (q size : ℕ) : Type 0 where
  pub lives : (object_at n q).live ≡ true
  pub writable : (object_at n q).writable ≡ true
  pub size_is : length (object_at n q).cells ≡ size
