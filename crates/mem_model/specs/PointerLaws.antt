-- The laws of the operators on pointers.
use Rattle.std.specs.Prelude.{◌≡◌, ℕ, ℤ, pos, ◌+ℤ◌, Some}
use Rattle.mem_model.specs.declared.value.Value.{Value}
use Rattle.mem_model.specs.Memory.{Memory}
use Rattle.mem_model.specs.Pointers.{pointer_plus, pointer_minus, pointer_lt, pointer_le, pointer_eq, is_null}
use Rattle.mem_model.specs.Laws.{ChangesCells}

-- moving twice is moving by the sum
abbrev pub PlusTwice : Type 0
PlusTwice =
    (m : Memory) (v u w : Value) (a b : ℤ) → pointer_plus m v a ≡ Some u → pointer_plus m u b ≡ Some w →
    pointer_plus m v (a +ℤ b) ≡ Some w

-- the distance to where a pointer was moved is by how much
abbrev pub MinusUndoesPlus : Type 0
MinusUndoesPlus = (m : Memory) (v u : Value) (a : ℤ) → pointer_plus m v a ≡ Some u → pointer_minus m u v ≡ Some a

-- a pointer moved by its distance to another one, which stands within its object, is that one
abbrev pub PlusUndoesMinus : Type 0
PlusUndoesMinus =
    (m : Memory) (v u : Value) (a : ℤ) → pointer_plus m u (pos 0) ≡ Some u → pointer_minus m u v ≡ Some a →
    pointer_plus m v a ≡ Some u

-- the operators answer the same in a memory where one object has other cells
pub record SamePointers (old new : Memory) : Type 0 where
  pub plus : (v : Value) (by : ℤ) → pointer_plus new v by ≡ pointer_plus old v by
  pub minus : (v w : Value) → pointer_minus new v w ≡ pointer_minus old v w
  pub lt : (v w : Value) → pointer_lt new v w ≡ pointer_lt old v w
  pub le : (v w : Value) → pointer_le new v w ≡ pointer_le old v w
  pub eq : (v w : Value) → pointer_eq new v w ≡ pointer_eq old v w
  pub null : (v : Value) → is_null new v ≡ is_null old v

abbrev pub ChangesKeepPointers : Type 0
ChangesKeepPointers = (old new : Memory) (id : ℕ) → ChangesCells old new id → SamePointers old new
