-- The laws of a memory that stands for another one: what the first does, the second can do.
use Rattle.std.specs.Prelude.{◌≡◌, ℕ, ℤ, ◌+◌, ◌<◌, Bool, true, List, length, Some, Ok}
use Rattle.mem_model.specs.declared.value.Ptr.{Ptr}
use Rattle.mem_model.specs.declared.value.Value.{Value}
use Rattle.mem_model.specs.Memory.{Memory, begin_object, end_object, begin_objects, end_objects, load_at, store_at, copy_at, IsStorable}
use Rattle.mem_model.specs.Pointers.{pointer_plus, pointer_minus, pointer_lt, pointer_le, pointer_eq, is_null}
use Rattle.mem_model.specs.Related.{Names, IsPointerOf, IsValueOf, IsMemoryOf, with_name, IsFreeName, IsLocal}

abbrev pub LoadsCorrespond : Type 0
LoadsCorrespond =
    (f : Names) (m n : Memory) (p q : Ptr) (width : ℕ) (pointer : Bool) (v : Value) → IsMemoryOf f m n
    → IsPointerOf f p q →
    load_at m p width pointer ≡ Ok v → (w : Value) × (load_at n q width pointer ≡ Ok w) × IsValueOf f v w

abbrev pub StoresCorrespond : Type 0
StoresCorrespond =
    (f : Names) (m n m1 : Memory) (p q : Ptr) (width : ℕ) (v w : Value) → IsMemoryOf f m n → IsPointerOf f p q
    → IsValueOf f v w →
    IsStorable width v → store_at m p width v ≡ Ok m1
    → (n1 : Memory) × (store_at n q width w ≡ Ok n1) × IsMemoryOf f m1 n1

abbrev pub CopiesCorrespond : Type 0
CopiesCorrespond =
    (f : Names) (m n m1 : Memory) (to from to' from' : Ptr) (size align : ℕ) → IsMemoryOf f m n → IsPointerOf f to to' →
    IsPointerOf f from from' → copy_at m to from size align ≡ Ok m1 →
    (n1 : Memory) × (copy_at n to' from' size align ≡ Ok n1) × IsMemoryOf f m1 n1

-- an object of the first memory begins, for which one of the second stands already, or ends
abbrev pub FirstBegins : Type 0
FirstBegins =
    (f : Names) (m n : Memory) (q size : ℕ) → IsMemoryOf f m n → IsLocal n q size → IsFreeName f m q →
    IsMemoryOf (with_name f (length m) q) (begin_object m size true) n

abbrev pub FirstEnds : Type 0
FirstEnds = (f : Names) (m n : Memory) (k : ℕ) → IsMemoryOf f m n → IsMemoryOf f (end_object m k) n

-- objects of the second memory begin, or end that stand for no live one
abbrev pub SecondBegins : Type 0
SecondBegins = (f : Names) (m n : Memory) (sizes : List ℕ) → IsMemoryOf f m n → IsMemoryOf f m (begin_objects n sizes)

abbrev pub SecondEnds : Type 0
SecondEnds =
    (f : Names) (m n : Memory) (first count : ℕ) → ((k : ℕ) → k < count → IsFreeName f m (first + k))
    → IsMemoryOf f m n →
    IsMemoryOf f m (end_objects n first count)

-- the operators on pointers
abbrev pub MovesCorrespond : Type 0
MovesCorrespond =
    (f : Names) (m n : Memory) (v w u : Value) (by : ℤ) → IsMemoryOf f m n → IsValueOf f v w
    → pointer_plus m v by ≡ Some u →
    (x : Value) × (pointer_plus n w by ≡ Some x) × IsValueOf f u x

pub record SameAnswers (m n : Memory) (v1 v2 w1 w2 : Value) : Type 0 where
  pub minus : (d : ℤ) → pointer_minus m v1 v2 ≡ Some d → pointer_minus n w1 w2 ≡ Some d
  pub lt : (b : Bool) → pointer_lt m v1 v2 ≡ Some b → pointer_lt n w1 w2 ≡ Some b
  pub le : (b : Bool) → pointer_le m v1 v2 ≡ Some b → pointer_le n w1 w2 ≡ Some b
  pub eq : (b : Bool) → pointer_eq m v1 v2 ≡ Some b → pointer_eq n w1 w2 ≡ Some b
  pub null : (b : Bool) → is_null m v1 ≡ Some b → is_null n w1 ≡ Some b

abbrev pub AnswersCorrespond : Type 0
AnswersCorrespond =
    (f : Names) (m n : Memory) (v1 v2 w1 w2 : Value) → IsMemoryOf f m n → IsValueOf f v1 w1 → IsValueOf f v2 w2 →
    SameAnswers m n v1 v2 w1 w2
