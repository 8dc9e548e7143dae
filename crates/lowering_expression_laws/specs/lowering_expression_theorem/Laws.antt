-- What is said of the code of every expression of a well typed unit.
use Rattle.std.specs.Prelude.{◌≡◌, ℕ, IsTrue, length, slice_get, Some}
use Rattle.c_typed_tree.specs.declared.units.TypedFn.{TypedFn}
use Rattle.c_typed_tree.specs.declared.units.TypedUnit.{TypedUnit}
use Rattle.c_typed_tree.specs.View.{type_view}
use Rattle.c_typed_tree.specs.Expressions.{Expr}
use Rattle.c_typed_tree.specs.Typing.{is_in_memory, is_typed}
use Rattle.c_typed_tree.specs.Lawful.{IsTypedUnit, IsTypedFn, context_of, types_of_parameters}
use Rattle.lowering_expression_laws.specs.Parts.{Setting, ExprMeets}
use Rattle.lowering_expression_laws.specs.lowering_place_laws.Places.{PlaceMeets}
use Rattle.lowering_expression_laws.specs.lowering_call_laws.Laws.{FunctionMeets}

-- a setting is one of a call of this function of a unit: its code is there, and the code of each function of the unit
-- does what that means one level down
pub record IsSetting (u : TypedUnit) (f : TypedFn) (c : Setting) : Type 0 where
  pub code : slice_get c.functions c.number ≡ Some c.code
  pub structs : c.structs ≡ u.structs
  pub locals : c.locals ≡ f.locals
  pub statics : c.statics ≡ length u.globals
  pub calls : (k : ℕ) (g : TypedFn) → slice_get u.functions k ≡ Some g
      → FunctionMeets c k (types_of_parameters g) (type_view g.result)

-- the code of each well typed expression does what it means
abbrev pub ExpressionsMeet : Type 0
ExpressionsMeet =
    (u : TypedUnit) (f : TypedFn) (c : Setting) → IsTypedUnit u → IsTypedFn u f → IsSetting u f c → (x : Expr) →
    IsTrue (is_typed (context_of u f) x) → ExprMeets c x

-- and that of each place in memory
abbrev pub MemoryPlacesMeet : Type 0
MemoryPlacesMeet =
    (u : TypedUnit) (f : TypedFn) (c : Setting) → IsTypedUnit u → IsTypedFn u f → IsSetting u f c → (x : Expr) →
    IsTrue (is_typed (context_of u f) x) → IsTrue (is_in_memory f.locals x) → PlaceMeets c x
