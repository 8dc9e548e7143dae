-- Assignments (C99 6.5.16). The left side has to be a place of scalar or struct type.
use Rattle.std.specs.Prelude.{ℕ, Bool, true, false, if◌then◌else◌, List, Option, Some, None, Ok, Err}
use Rattle.bk_arithmetic.specs.declared.integer_type.IntegerType.{IntegerType}
use Rattle.c_tree.specs.declared.expressions.AssignOp.{AssignOp}
use Rattle.c_tree.specs.declared.expressions.AssignOp.TheVariants as o
use Rattle.c_typed_tree.specs.declared.types.CType.{CType}
use Rattle.c_typed_tree.specs.declared.types.StructDef.{StructDef}
use Rattle.c_typed_tree.specs.declared.expressions.TExpr as x
use Rattle.c_typed_tree.specs.View.{type_view}
use Rattle.c_typing_faults.specs.declared.faults.Kind.TheVariants.{BadOperand, NotAssignable}
use Rattle.c_typing_rules.specs.declared.typed.TypedExpression.{TypedExpression}
use Rattle.c_typing_rules.specs.Rulings.{Ruling, fault}
use Rattle.c_typed_tree.specs.Typing.{points_to_object}
use Rattle.c_typing_rules.specs.Values.{integer, rvalue, convert_tree}
use Rattle.c_typing_rules.specs.Arithmetic.{promoted_type, common_type}
use Rattle.c_typing_rules.specs.Conversions.{value_for_type}
use Rattle.c_typing_place_rules.specs.Places.{is_assignable}

abbrev pub assign_place : ℕ → AssignOp → TypedExpression → (right : x.TExpr) → TypedExpression
assign_place at op a right = rvalue at a.ty (x.Assign a.ty op a.tree right)

-- ---- `=`: the right side is converted to the type of the left (6.5.16.1)

abbrev pub set_to : ℕ → TypedExpression → Ruling x.TExpr → Ruling TypedExpression
set_to at a (Ok right) = Ok (assign_place at o.Set a right)
set_to at a (Err f) = Err f

abbrev pub set : ℕ → (left right : TypedExpression) → (null : Bool) → Ruling TypedExpression
set at a b null = if is_assignable a then set_to at a (value_for_type a.ty b null) else fault a.at NotAssignable

-- ---- the compound ones: the right side is converted as beside its operator, and the left one stands as it is
-- (6.5.16.2)

abbrev pub shifts : AssignOp → Bool
shifts o.ShiftLeft = true
shifts o.ShiftRight = true
shifts _ = false

-- `+=` and `-=`, which move pointers too
abbrev pub moves : AssignOp → Bool
moves o.Add = true
moves o.Subtract = true
moves _ = false

abbrev pub right_type : AssignOp → (left right : IntegerType) → CType
right_type op s t = if shifts op then promoted_type t else common_type s t

abbrev pub moved_place : List StructDef → ℕ → AssignOp → (left right : TypedExpression) → Ruling TypedExpression
moved_place ds at op a b =
    if moves op then
    (if points_to_object ds (type_view a.ty) then Ok (assign_place at op a b.tree) else fault at BadOperand)
    else fault at BadOperand

abbrev pub compound_of : List StructDef → ℕ → AssignOp → (left right : TypedExpression) → Option IntegerType →
    Option IntegerType
    → Ruling TypedExpression
compound_of ds at op a b s None = fault at BadOperand
compound_of ds at op a b None (Some t) = moved_place ds at op a b
compound_of ds at op a b (Some s) (Some t) = Ok (assign_place at op a (convert_tree (right_type op s t) b))

abbrev pub compound : List StructDef → ℕ → AssignOp → (left right : TypedExpression) → Ruling TypedExpression
compound ds at op a b =
    if is_assignable a then compound_of ds at op a b (integer a) (integer b) else fault a.at NotAssignable
