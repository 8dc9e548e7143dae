-- What is said of the code that writes a value to a place of memory: a scalar is stored, and a struct is copied.
use Rattle.std.specs.Prelude.{◌≡◌, ◌≤◌, ◌⊎◌, ℕ, List, slice_get, Some}
use Rattle.mem_model.specs.declared.value.Value.{Value}
use Rattle.mem_model.specs.Memory.{Memory}
use Rattle.mem_model.specs.Related.{Names, IsValueOf}
use Rattle.mem_objects.specs.declared.TheConstants.{MOST_DATA}
use Rattle.suifvm_meaning.specs.Behave.{Registers}
use Rattle.c_typed_tree.specs.Types.{PlainType, Struct}
use Rattle.c_typed_tree.specs.Layout.{size_of, align_of}
use Rattle.c_semantics.specs.Runs.{CallState}
use Rattle.c_semantics.specs.Objects.{Scope, write_at}
use Rattle.lowering_code.specs.declared.item.CodeItem.{CodeItem}
use Rattle.lowering_code.specs.Expressions.{store_code, copy_code}
use Rattle.lowering_states.specs.Places.{CodePlace, next_place}
use Rattle.lowering_states.specs.Runs.{CodeObservation, finish}
use Rattle.lowering_states.specs.States.{IsHeld}
use Rattle.lowering_states.specs.lowering_values.Laws.{IsMoved}
use Rattle.lowering_expression_laws.specs.Parts.{Setting, EndsSo, Stands, Fit, Aft}
use Rattle.lowering_expression_laws.specs.Laws.{IsScalarType}

-- an alignment that there is
abbrev pub IsAlignment : ℕ → Type 0
IsAlignment n = (n ≡ 1) ⊎ (n ≡ 2) ⊎ (n ≡ 4) ⊎ (n ≡ 8)

-- a struct is no larger than the data may be
pub record IsWholeStruct (c : Setting) (number : ℕ) : Type 0 where
  pub size : size_of c.structs (Struct number) ≤ MOST_DATA
  pub align : IsAlignment (align_of c.structs (Struct number))

module _ (c : Setting) where
  -- what follows a write, where the code behind stands: states correspond, and no register was written
  abbrev pub Leaves : (heads : List ℕ) → (rest : List CodeItem) → CodePlace → Names → Scope → Registers → CallState →
      Memory
      → (Unit {0} → CallState → CodeObservation) → Type 0
  Leaves heads rest q f scope r s m K =
      (t : CallState) (n : Memory) → Stands c heads (next_place q) rest → Aft c f s m f t n → Fit c f scope r t n
      → EndsSo c (K tt t) (next_place q) r t.world n

  pub record Writes : Type 0 where
    pub scalars : (ty : PlainType) → IsScalarType ty → (pointer plus value : ℕ) (rest : List CodeItem) (heads : List ℕ)
        (q : CodePlace) (base at v : Value) (f : Names) (scope : Scope) (r : Registers) (s : CallState) (m : Memory)
        (K : Unit {0} → CallState → CodeObservation) → Stands c heads q (store_code ty pointer plus value rest)
        → Fit c f scope r s m → IsHeld ty v → IsValueOf f v (r value) → IsValueOf f base (r pointer)
        → IsMoved s.world.outer.memory base plus at → Leaves heads rest q f scope r s m K
        → EndsSo c (finish (write_at c.structs ty at v s) K) q r s.world m
    pub structs : (number : ℕ) → IsWholeStruct c number → (to from : ℕ) (rest : List CodeItem) (heads : List ℕ)
        (q : CodePlace) (at v : Value) (f : Names) (scope : Scope) (r : Registers) (s : CallState) (m : Memory)
        (K : Unit {0} → CallState → CodeObservation) →
        Stands c heads q (copy_code c.structs to from (Struct number) rest)
        → Fit c f scope r s m → IsValueOf f at (r to) → IsValueOf f v (r from) → Leaves heads rest q f scope r s m K
        → EndsSo c (finish (write_at c.structs (Struct number) at v s) K) q r s.world m

abbrev pub WritesMeet : Type 0
WritesMeet = (c : Setting) → slice_get c.functions c.number ≡ Some c.code → Writes c
