-- The operators of integers, and those that move pointers (C99 6.5.3.3, 6.5.5 to 6.5.7, 6.5.10 to 6.5.12).
use Rattle.std.specs.Prelude.{ℕ, if◌then◌else◌, List, Option, Some, None, Ok}
use Rattle.bk_arithmetic.specs.declared.integer_type.IntegerType.{IntegerType}
use Rattle.bk_arithmetic.specs.IntegerTypes.{promote, common}
use Rattle.c_tree.specs.declared.expressions.UnaryOp.{UnaryOp}
use Rattle.c_tree.specs.declared.expressions.BinaryOp.{BinaryOp}
use Rattle.c_tree.specs.declared.expressions.BinaryOp.TheVariants as o
use Rattle.c_typed_tree.specs.declared.types.CType.{CType}
use Rattle.c_typed_tree.specs.declared.types.StructDef.{StructDef}
use Rattle.c_typed_tree.specs.View.{type_view}
use Rattle.c_typing_faults.specs.declared.faults.Kind.TheVariants.{BadOperand}
use Rattle.c_typing_rules.specs.declared.typed.TypedExpression.{TypedExpression}
use Rattle.c_typing_rules.specs.Rulings.{Ruling, fault}
use Rattle.c_typed_tree.specs.Constants.{is_integer}
use Rattle.c_typed_tree.specs.Typing.{points_to_object}
use Rattle.c_typing_rules.specs.Values.{type_of_integer, long, integer, is_same, convert_tree, unary_rvalue, binary_rvalue, binary_in}

-- ---- `+`, `-` and `~` in front of an integer: it is promoted, and so is the result

abbrev pub promoted_type : IntegerType → CType
promoted_type t = type_of_integer (promote t)

abbrev pub unary_of : ℕ → UnaryOp → TypedExpression → Option IntegerType → Ruling TypedExpression
unary_of at op a None = fault at BadOperand
unary_of at op a (Some t) = Ok (unary_rvalue at (promoted_type t) op (convert_tree (promoted_type t) a))

abbrev pub unary_arithmetic : ℕ → UnaryOp → TypedExpression → Ruling TypedExpression
unary_arithmetic at op a = unary_of at op a (integer a)

-- ---- `* / % & ^ |` between integers: both are converted to their common type, and so is the result

abbrev pub common_type : IntegerType → IntegerType → CType
common_type s t = type_of_integer (common s t)

abbrev pub arithmetic_of : ℕ → BinaryOp → (left right : TypedExpression) → Option IntegerType → Option IntegerType →
    Ruling TypedExpression
arithmetic_of at op a b None t = fault at BadOperand
arithmetic_of at op a b (Some s) None = fault at BadOperand
arithmetic_of at op a b (Some s) (Some t) = Ok (binary_in at (common_type s t) op (common_type s t) a b)

abbrev pub arithmetic : ℕ → BinaryOp → (left right : TypedExpression) → Ruling TypedExpression
arithmetic at op a b = arithmetic_of at op a b (integer a) (integer b)

-- ---- `<<` and `>>`: each integer is promoted by itself, and the result has the left one's type

abbrev pub shift_of : ℕ → BinaryOp → (left right : TypedExpression) → Option IntegerType → Option IntegerType →
    Ruling TypedExpression
shift_of at op a b None t = fault at BadOperand
shift_of at op a b (Some s) None = fault at BadOperand
shift_of at op a b (Some s) (Some t) =
    Ok (binary_rvalue at (promoted_type s) op (convert_tree (promoted_type s) a) (convert_tree (promoted_type t) b))

abbrev pub bitwise_shift : ℕ → BinaryOp → (left right : TypedExpression) → Ruling TypedExpression
bitwise_shift at op a b = shift_of at op a b (integer a) (integer b)

-- ---- `+` and `-` with pointers to objects: the integer beside a pointer is not converted, and the result has the
-- pointer's type; the distance of two pointers of one type is a `long`

abbrev pub pointer_operation : ℕ → BinaryOp → CType → (left right : TypedExpression) → Ruling TypedExpression
pointer_operation at op ty a b = Ok (binary_rvalue at ty op a.tree b.tree)

abbrev pub addition : List StructDef → ℕ → (left right : TypedExpression) → Ruling TypedExpression
addition ds at a b =
    if points_to_object ds (type_view a.ty) then
    (if is_integer (type_view b.ty) then pointer_operation at o.Add a.ty a b else fault at BadOperand)
    else if points_to_object ds (type_view b.ty) then
    (if is_integer (type_view a.ty) then pointer_operation at o.Add b.ty a b else fault at BadOperand)
    else arithmetic at o.Add a b

abbrev pub subtraction : List StructDef → ℕ → (left right : TypedExpression) → Ruling TypedExpression
subtraction ds at a b =
    if points_to_object ds (type_view a.ty) then
    (if is_integer (type_view b.ty) then pointer_operation at o.Subtract a.ty a b
    else if is_same a.ty b.ty then pointer_operation at o.Subtract long a b
    else fault at BadOperand)
    else arithmetic at o.Subtract a b
