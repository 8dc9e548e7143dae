-- What the operators on pointers give, their addresses give as words.
use Rattle.std.specs.Prelude.{◌≡◌, ◌==◌, ℕ, ◌+◌, ℤ, Bool, nat_lt, nat_le, Some}
use Rattle.alpha_isa.specs.Arithmetic.{word_at, word_from, word_difference}
use Rattle.mem_model.specs.declared.value.Value.{Value}
use Rattle.mem_model.specs.Memory.{Memory}
use Rattle.mem_model.specs.Pointers.{pointer_plus, pointer_minus, pointer_lt, pointer_le, pointer_eq, is_null}
use Rattle.frame_memory.specs.Bytes.{Bytes}
use Rattle.frame_memory.specs.Relation.{Extents, Owners, ValueIs, MemoryIs}

-- a pointer that is moved
abbrev pub PointersMove : Type 0
PointersMove =
    (xs : Extents) (memory : Memory) (owner : Owners) (m : Bytes) → MemoryIs xs memory owner m →
    (v u : Value) (w : ℕ) (by : ℤ) → ValueIs xs v w → pointer_plus memory v by ≡ Some u →
    ValueIs xs u (word_at (w + word_from by))

-- the distance and the comparisons of two pointers, and the test against null of the first
pub record AnswersAre (memory : Memory) (v u : Value) (w x : ℕ) : Type 0 where
  pub minus : (d : ℤ) → pointer_minus memory v u ≡ Some d → word_at (word_difference w x) ≡ word_from d
  pub lt : (b : Bool) → pointer_lt memory v u ≡ Some b → nat_lt w x ≡ b
  pub le : (b : Bool) → pointer_le memory v u ≡ Some b → nat_le w x ≡ b
  pub eq : (b : Bool) → pointer_eq memory v u ≡ Some b → (w == x) ≡ b
  pub null : (b : Bool) → is_null memory v ≡ Some b → (w == 0) ≡ b

abbrev pub PointersAnswer : Type 0
PointersAnswer =
    (xs : Extents) (memory : Memory) (owner : Owners) (m : Bytes) → MemoryIs xs memory owner m →
    (v u : Value) (w x : ℕ) → ValueIs xs v w → ValueIs xs u x → AnswersAre memory v u w x
