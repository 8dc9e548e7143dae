-- What is said of the code of compound assignments (C99 6.5.16.2), and of `++` and `--` (6.5.2.4, 6.5.3.1).
use Rattle.std.specs.Prelude.{◌≡◌, ◌≤◌, ℕ, false, slice_get, Some, None}
use Rattle.mem_objects.specs.declared.TheConstants.{MOST_DATA}
use Rattle.bk_arithmetic.specs.declared.integer_type.IntegerType.{IntegerType}
use Rattle.bk_arithmetic.specs.IntegerTypes.{promote}
use Rattle.c_tree.specs.declared.expressions.AssignOp.{AssignOp}
use Rattle.c_tree.specs.declared.expressions.AssignOp.TheVariants as a
use Rattle.c_tree.specs.declared.expressions.BinaryOp.{BinaryOp}
use Rattle.c_tree.specs.declared.expressions.StepOp.{StepOp}
use Rattle.c_tree.specs.declared.expressions.StepOp.TheVariants as step
use Rattle.c_tree.specs.declared.expressions.UnaryOp.TheVariants as u
use Rattle.c_typed_tree.specs.declared.units.Local.{Local}
use Rattle.c_typed_tree.specs.View.{type_view}
use Rattle.c_typed_tree.specs.Types.{PlainType, Pointer}
use Rattle.c_typed_tree.specs.Layout.{size_of}
use Rattle.c_typed_tree.specs.Expressions.{Expr, Assign, Unary, Postfix, type_of}
use Rattle.c_typed_tree.specs.Expressions as e
use Rattle.c_semantics.specs.Operators.{operator_of, operation_type}
use Rattle.lowering_code.specs.Expressions.{plain_of, register_of}
use Rattle.lowering_expression_laws.specs.Parts.{Setting, first_depth, ExprMeets}
use Rattle.lowering_expression_laws.specs.lowering_place_laws.Places.{PlaceMeets}

-- a register holds a local of a type
pub record RegisterHolds (c : Setting) (k : ℕ) (ty : PlainType) : Type 0 where
  pub local : Local
  pub is_there : slice_get c.locals k ≡ Some local
  pub in_register : local.in_memory ≡ false
  pub is_of_type : type_view local.ty ≡ ty

-- `+=` for `++`, and `-=` for `--`: the only ones of a pointer
abbrev pub change_operator : StepOp → AssignOp
change_operator step.Increment = a.Add
change_operator step.Decrement = a.Subtract

-- `++` and `--` of a place, before it and behind it
pub record StepsMeet (c : Setting) (ty : PlainType) (x : Expr) : Type 0 where
  pub increments : ExprMeets c (Unary ty u.Increment x)
  pub decrements : ExprMeets c (Unary ty u.Decrement x)
  pub postfixes : (op : StepOp) → ExprMeets c (Postfix ty op x)

-- changes of a place, where the code of the right side does what it does: of an integer, in the type in which the
-- operator is done, and of a pointer, which is moved by elements
pub record ChangesMeet (c : Setting) (x : Expr) (ty : PlainType) : Type 0 where
  pub integers : (left : IntegerType) → ty ≡ plain_of left → (op : AssignOp) (o : BinaryOp) (right : IntegerType)
      (y : Expr) → operator_of op ≡ Some o → type_of y ≡ plain_of right
      → promote (operation_type o left right) ≡ operation_type o left right → ExprMeets c y
      → ExprMeets c (Assign ty op x y)
  pub integer_steps : (left : IntegerType) → ty ≡ plain_of left → StepsMeet c ty x
  pub pointers : (target : PlainType) → ty ≡ Pointer target → size_of c.structs target ≤ MOST_DATA → (op : StepOp)
      (right : IntegerType) (y : Expr) → type_of y ≡ plain_of right → ExprMeets c y
      → ExprMeets c (Assign ty (change_operator op) x y)
  pub pointer_steps : (target : PlainType) → ty ≡ Pointer target → size_of c.structs target ≤ MOST_DATA
      → StepsMeet c ty x

-- of a local that a register holds
abbrev pub RegistersAreChanged : Type 0
RegistersAreChanged =
    (c : Setting) → slice_get c.functions c.number ≡ Some c.code → (ty : PlainType) (k : ℕ) → RegisterHolds c k ty
    → ChangesMeet c (e.Local ty k) ty

-- of a place in memory, where its code does what it does
abbrev pub MemoryIsChanged : Type 0
MemoryIsChanged =
    (c : Setting) → slice_get c.functions c.number ≡ Some c.code → (ty : PlainType) (x : Expr)
    → register_of (first_depth c) c.structs c.locals x ≡ None → PlaceMeets c x → ChangesMeet c x ty
