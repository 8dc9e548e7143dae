-- That the code of a place does what the place does.
use Rattle.std.specs.Prelude.{◌≤◌, ℕ, List}
use Rattle.mem_model.specs.declared.value.Value.{Value}
use Rattle.mem_model.specs.Memory.{Memory}
use Rattle.mem_model.specs.Related.{Names, IsValueOf}
use Rattle.mem_objects.specs.declared.TheConstants.{MOST_DATA}
use Rattle.suifvm_meaning.specs.Behave.{Registers}
use Rattle.c_typed_tree.specs.Types.{Void, Pointer}
use Rattle.c_typed_tree.specs.Layout.{size_of}
use Rattle.c_typed_tree.specs.Expressions.{Expr, type_of}
use Rattle.c_semantics.specs.Runs.{CallState}
use Rattle.c_semantics.specs.Objects as objects
use Rattle.c_semantics.specs.Objects.{Scope}
use Rattle.c_semantics.specs.Evaluates.{place}
use Rattle.lowering_code.specs.declared.item.CodeItem.{CodeItem}
use Rattle.lowering_code.specs.Registers.{address_register}
use Rattle.lowering_code.specs.Expressions.{place_code, plus_of}
use Rattle.lowering_states.specs.Places.{CodePlace}
use Rattle.lowering_states.specs.Runs.{CodeObservation, finish}
use Rattle.lowering_states.specs.States.{IsHeld, KeepsLower}
use Rattle.lowering_states.specs.lowering_values.Laws.{IsMoved}
use Rattle.lowering_expression_laws.specs.Parts.{Setting, first_depth, EndsSo, Stands, Fit, Aft}

-- the base moved by the bytes that are left is where the place is, moved by so many more
abbrev pub IsBase : Memory → (base : Value) → (left : ℕ) → (at : Value) → (plus : ℕ) → Type 0
IsBase m base left at plus = (u : Value) → IsMoved m at plus u → IsMoved m base left u

module _ (c : Setting) where
  -- how many bytes are left
  abbrev pub left_of : Expr → (plus : ℕ) → ℕ
  left_of x plus = plus_of (first_depth c) c.structs c.locals x plus

  -- what follows a place in memory whose code gave a pointer at a depth
  abbrev pub PlaceFollows : (depth plus : ℕ) → Expr → (heads : List ℕ) → (rest : List CodeItem) → Names → Scope
      → Registers → CallState → Memory → (objects.ValuePlace → CallState → CodeObservation) → Type 0
  PlaceFollows d plus x heads rest f scope r s n K =
      (q : CodePlace) (base at : Value) (g : Names) (t : CallState) (q1 : Registers) (m : Memory) →
      Stands c heads q rest
      → Aft c f s n g t m → Fit c g scope q1 t m → KeepsLower (first_depth c) d r q1 → IsHeld (Pointer Void) at
      → IsValueOf g base (q1 (address_register (first_depth c) d)) → left_of x plus ≤ MOST_DATA
      → IsBase t.world.outer.memory base (left_of x plus) at plus → EndsSo c (K (objects.At at) t) q q1 t.world m

  -- the place is to be moved by no more bytes than it has
  pub record PlaceMeets (x : Expr) : Type 0 where
    pub by : (d plus : ℕ) (rest : List CodeItem) (heads : List ℕ) (p : CodePlace) (f : Names) (scope : Scope)
        (r : Registers)
        (s : CallState) (n : Memory) (K : objects.ValuePlace → CallState → CodeObservation) → plus ≤ MOST_DATA
        → plus ≤ size_of c.structs (type_of x) →
        Stands c heads p (place_code (first_depth c) c.structs c.locals d x plus rest) → Fit c f scope r s n
        → s.world.meter.turns ≤ c.level → PlaceFollows d plus x heads rest f scope r s n K
        → EndsSo c (finish (place c.structs c.locals c.calls scope x s) K) p r s.world n
