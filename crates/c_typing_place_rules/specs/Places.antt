-- Places: what pointers lead to, addresses, and steps (C99 6.5.2.1, 6.5.2.4, 6.5.3.1, 6.5.3.2).
use Rattle.std.specs.Prelude.{ℕ, Bool, true, false, ◌||◌, if◌then◌else◌, List, Option, Some, None, Ok}
use Rattle.c_tree.specs.declared.expressions.UnaryOp.{UnaryOp}
use Rattle.c_tree.specs.declared.expressions.UnaryOp.TheVariants.{Address, Dereference}
use Rattle.c_tree.specs.declared.expressions.StepOp.{StepOp}
use Rattle.c_typed_tree.specs.declared.types.CType as t
use Rattle.c_typed_tree.specs.declared.types.StructDef.{StructDef}
use Rattle.c_typed_tree.specs.declared.expressions.TExpr as x
use Rattle.c_typed_tree.specs.View.{type_view}
use Rattle.c_typing_faults.specs.declared.faults.Kind.TheVariants.{BadOperand, NotAssignable}
use Rattle.c_typing_rules.specs.declared.typed.LvalueKind.{LvalueKind}
use Rattle.c_typing_rules.specs.declared.typed.LvalueKind.TheVariants as p
use Rattle.c_typing_rules.specs.declared.typed.TypedExpression.{TypedExpression}
use Rattle.c_typing_rules.specs.Rulings.{Ruling, fault}
use Rattle.c_typed_tree.specs.Constants.{is_integer}
use Rattle.c_typed_tree.specs.Typing.{is_scalar, is_struct, points_to_object}
use Rattle.c_typing_rules.specs.Values.{rvalue, unary_rvalue}

-- ---- what a pointer to an object leads to

unfoldable pub target : t.CType → Option t.CType
target t.Void = None
target (t.Int bytes signed) = None
target (t.Pointer' _ (t.more_of-CType x t.end_of-CType)) = Some x
target (t.Array' _ element length) = None
target (t.Struct number) = None

-- a place that is found by a pointer
abbrev pub pointed_place : ℕ → t.CType → x.TExpr → TypedExpression
pointed_place at ty tree = record { at = at; tree = tree; ty = ty; place = p.Elsewhere }

-- the type of what a pointer to an object leads to
abbrev pub object_of : List StructDef → t.CType → Option t.CType
object_of ds ty = if points_to_object ds (type_view ty) then target ty else None

abbrev pub pointee : ℕ → t.CType → x.TExpr → TypedExpression
pointee at ty operand = pointed_place at ty (x.Unary ty Dereference operand)

abbrev pub dereference_of : ℕ → TypedExpression → Option t.CType → Ruling TypedExpression
dereference_of at a None = fault at BadOperand
dereference_of at a (Some ty) = Ok (pointee at ty a.tree)

abbrev pub dereference : List StructDef → ℕ → TypedExpression → Ruling TypedExpression
dereference ds at a = dereference_of at a (object_of ds a.ty)

-- `[ ]` takes a pointer and an integer in either order
abbrev pub element_at : ℕ → t.CType → (left right : x.TExpr) → TypedExpression
element_at at ty left right = pointed_place at ty (x.Index ty left right)

abbrev pub element_by_index : ℕ → (left right : TypedExpression) → (is_index : Bool) → Option t.CType →
    Ruling TypedExpression
element_by_index at a b is_index None = fault at BadOperand
element_by_index at a b is_index (Some ty) =
    if is_index then Ok (element_at at ty a.tree b.tree) else fault at BadOperand

abbrev pub index : List StructDef → ℕ → (left right : TypedExpression) → Ruling TypedExpression
index ds at a b =
    if points_to_object ds (type_view a.ty) then element_by_index at a b (is_integer (type_view b.ty))
    (object_of ds a.ty)
    else element_by_index at a b (is_integer (type_view a.ty)) (object_of ds b.ty)

-- ---- addresses, and what may be changed

abbrev pub is_somewhere : LvalueKind → Bool
is_somewhere p.Nowhere = false
is_somewhere (p.Local number) = true
is_somewhere (p.Global number) = true
is_somewhere p.Elsewhere = true

abbrev pub address : ℕ → TypedExpression → Ruling TypedExpression
address at a =
    if is_somewhere a.place then Ok (unary_rvalue at (t.Pointer a.ty) Address a.tree) else fault a.at NotAssignable

-- a place of scalar or struct type
abbrev pub is_assignable : TypedExpression → Bool
is_assignable a = if is_somewhere a.place then is_scalar (type_view a.ty) || is_struct (type_view a.ty) else false

-- ---- `++` and `--`, in front of their operand and behind it: integers, and pointers to objects

abbrev pub is_steppable : List StructDef → TypedExpression → Bool
is_steppable ds a = is_integer (type_view a.ty) || points_to_object ds (type_view a.ty)

abbrev pub step_before : List StructDef → ℕ → UnaryOp → TypedExpression → Ruling TypedExpression
step_before ds at op a =
    if is_assignable a then (if is_steppable ds a then Ok (unary_rvalue at a.ty op a.tree) else fault at BadOperand)
    else fault a.at NotAssignable

abbrev pub postfix_rvalue : ℕ → t.CType → StepOp → x.TExpr → TypedExpression
postfix_rvalue at ty op operand = rvalue at ty (x.Postfix ty op operand)

abbrev pub step_behind : List StructDef → ℕ → StepOp → TypedExpression → Ruling TypedExpression
step_behind ds at op a =
    if is_assignable a then
    (if is_steppable ds a then Ok (postfix_rvalue at a.ty op a.tree) else fault at BadOperand)
    else fault a.at NotAssignable
