-- Values made of their parts, with each conversion written.
use Rattle.std.specs.Prelude.{ℕ, Bool, if◌then◌else◌, Option}
use Rattle.bk_arithmetic.specs.declared.integer_type.IntegerType.{IntegerType}
use Rattle.bk_arithmetic.specs.declared.integer_type.IntegerType.TheVariants as i
use Rattle.bk_arithmetic.specs.IntegerTypes.{bytes, is_signed}
use Rattle.c_tree.specs.declared.expressions.UnaryOp.{UnaryOp}
use Rattle.c_tree.specs.declared.expressions.BinaryOp.{BinaryOp}
use Rattle.c_typed_tree.specs.declared.types.CType as t
use Rattle.c_typed_tree.specs.declared.expressions.TExpr as x
use Rattle.c_typed_tree.specs.Layout.{integer_of}
use Rattle.c_typed_tree.specs.View.{type_view}
use Rattle.c_typing_rules.specs.declared.typed.LvalueKind.TheVariants as p
use Rattle.c_typing_rules.specs.declared.typed.TypedExpression.{TypedExpression}
use Rattle.c_typed_tree.specs.Typing.{is_same_type}

abbrev pub type_of_integer : IntegerType → t.CType
type_of_integer u = t.Int (bytes u) (is_signed u)

abbrev pub int : t.CType
int = type_of_integer i.Int

abbrev pub long : t.CType
long = type_of_integer i.Long

abbrev pub is_same : t.CType → t.CType → Bool
is_same a b = is_same_type (type_view a) (type_view b)

-- the integer type of an operand, if it has one
abbrev pub integer : TypedExpression → Option IntegerType
integer a = integer_of (type_view a.ty)

-- what is no place
abbrev pub rvalue : ℕ → t.CType → x.TExpr → TypedExpression
rvalue at ty tree = record { at = at; tree = tree; ty = ty; place = p.Nowhere }

-- a value where one of this type is wanted: it is converted where its own is another
abbrev pub convert_tree : t.CType → TypedExpression → x.TExpr
convert_tree to a = if is_same to a.ty then a.tree else x.Convert to a.tree

abbrev pub unary_rvalue : ℕ → t.CType → UnaryOp → x.TExpr → TypedExpression
unary_rvalue at ty op operand = rvalue at ty (x.Unary ty op operand)

abbrev pub binary_rvalue : ℕ → t.CType → BinaryOp → (left right : x.TExpr) → TypedExpression
binary_rvalue at ty op left right = rvalue at ty (x.Binary ty op left right)

-- both operands are converted to one type
abbrev pub binary_in : ℕ → t.CType → BinaryOp → (to : t.CType) → (left right : TypedExpression) → TypedExpression
binary_in at ty op to a b = binary_rvalue at ty op (convert_tree to a) (convert_tree to b)
