-- Comparisons, and the operators that ask whether an operand is zero (C99 6.5.3.3, 6.5.8, 6.5.9, 6.5.13, 6.5.14). The
-- result is an `int`.
use Rattle.std.specs.Prelude.{ℕ, Bool, ◌&&◌, if◌then◌else◌, Option, Some, None, Ok}
use Rattle.bk_arithmetic.specs.declared.integer_type.IntegerType.{IntegerType}
use Rattle.c_tree.specs.declared.expressions.UnaryOp.TheVariants.{Not}
use Rattle.c_tree.specs.declared.expressions.BinaryOp.{BinaryOp}
use Rattle.c_typed_tree.specs.declared.expressions.TExpr.{TExpr}
use Rattle.c_typed_tree.specs.View.{type_view}
use Rattle.c_typing_faults.specs.declared.faults.Kind.TheVariants.{BadOperand}
use Rattle.c_typing_rules.specs.declared.typed.TypedExpression.{TypedExpression}
use Rattle.c_typing_rules.specs.Rulings.{Ruling, fault}
use Rattle.c_typed_tree.specs.Typing.{is_pointer, is_scalar}
use Rattle.c_typing_rules.specs.Values.{int, integer, is_same, unary_rvalue, binary_rvalue, binary_in}
use Rattle.c_typing_rules.specs.Arithmetic.{common_type}

-- ---- conditions: integers and pointers

abbrev pub condition : TypedExpression → Ruling TExpr
condition a = if is_scalar (type_view a.ty) then Ok a.tree else fault a.at BadOperand

abbrev pub not_operation : ℕ → TypedExpression → Ruling TypedExpression
not_operation at a = if is_scalar (type_view a.ty) then Ok (unary_rvalue at int Not a.tree) else fault at BadOperand

-- `&&` and `||`
abbrev pub logical : ℕ → BinaryOp → (left right : TypedExpression) → Ruling TypedExpression
logical at op a b =
    if is_scalar (type_view a.ty) then
    (if is_scalar (type_view b.ty) then Ok (binary_rvalue at int op a.tree b.tree) else fault at BadOperand)
    else fault at BadOperand

-- ---- `<`, `>`, `<=` and `>=`: integers in their common type, or pointers of one type

abbrev pub are_pointers_of_one_type : (left right : TypedExpression) → Bool
are_pointers_of_one_type a b = is_pointer (type_view a.ty) && is_same a.ty b.ty

abbrev pub ordered_pointers : ℕ → BinaryOp → (left right : TypedExpression) → Ruling TypedExpression
ordered_pointers at op a b =
    if are_pointers_of_one_type a b then Ok (binary_rvalue at int op a.tree b.tree) else fault at BadOperand

abbrev pub comparison_of : ℕ → BinaryOp → (left right : TypedExpression) → Option IntegerType → Option IntegerType →
    Ruling TypedExpression
comparison_of at op a b (Some s) (Some t) = Ok (binary_in at int op (common_type s t) a b)
comparison_of at op a b (Some s) None = fault at BadOperand
comparison_of at op a b None t = ordered_pointers at op a b

abbrev pub comparison : ℕ → BinaryOp → (left right : TypedExpression) → Ruling TypedExpression
comparison at op a b = comparison_of at op a b (integer a) (integer b)
