-- What is said of the code of locals and of assignments.
use Rattle.std.specs.Prelude.{◌≡◌, ℕ, true, false, slice_get, Some, None}
use Rattle.c_tree.specs.declared.expressions.AssignOp.TheVariants as a
use Rattle.c_typed_tree.specs.declared.units.Local.{Local}
use Rattle.c_typed_tree.specs.Types.{PlainType}
use Rattle.c_typed_tree.specs.View.{type_view}
use Rattle.c_typed_tree.specs.Expressions.{Expr, Assign, type_of}
use Rattle.c_typed_tree.specs.Expressions as e
use Rattle.lowering_code.specs.Expressions.{register_of}
use Rattle.lowering_expression_laws.specs.Parts.{Setting, first_depth, ExprMeets}
use Rattle.lowering_expression_laws.specs.Laws.{IsScalarType}
use Rattle.lowering_expression_laws.specs.lowering_place_laws.Places.{PlaceMeets}
use Rattle.lowering_expression_laws.specs.lowering_place_laws.Laws.{HasWholeIntegers}

pub record Locals (c : Setting) : Type 0 where
  pub registers : (ty : PlainType) (k : ℕ) (l : Local) → slice_get c.locals k ≡ Some l → l.in_memory ≡ false
      → type_view l.ty ≡ ty → IsScalarType ty → ExprMeets c (e.Local ty k)
  pub objects : (ty : PlainType) (k : ℕ) (l : Local) → slice_get c.locals k ≡ Some l → l.in_memory ≡ true
      → HasWholeIntegers ty → ExprMeets c (e.Local ty k)

abbrev pub LocalsMeet : Type 0
LocalsMeet = (c : Setting) → slice_get c.functions c.number ≡ Some c.code → Locals c

pub record Assignments (c : Setting) : Type 0 where
  pub registers : (ty : PlainType) (k : ℕ) (l : Local) (y : Expr) → slice_get c.locals k ≡ Some l
      → l.in_memory ≡ false → type_view l.ty ≡ ty → IsScalarType ty → type_of y ≡ ty → ExprMeets c y
      → ExprMeets c (Assign ty a.Set (e.Local ty k) y)
  pub objects : (ty : PlainType) (x y : Expr) → register_of (first_depth c) c.structs c.locals x ≡ None
      → IsScalarType ty → type_of y ≡ ty → PlaceMeets c x → ExprMeets c y → ExprMeets c (Assign ty a.Set x y)

abbrev pub AssignmentsMeet : Type 0
AssignmentsMeet = (c : Setting) → slice_get c.functions c.number ≡ Some c.code → Assignments c
