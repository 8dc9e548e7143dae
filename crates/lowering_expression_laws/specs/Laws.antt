-- What is said of the code of forms of expression.
use Rattle.std.specs.Prelude.{◌≡◌, ◌⊎◌, ℕ, Bool, true, false, slice_get, Some}
use Rattle.bk_arithmetic.specs.declared.integer_type.IntegerType.{IntegerType}
use Rattle.bk_arithmetic.specs.declared.integer_type.IntegerType.TheVariants as i
use Rattle.bk_arithmetic.specs.IntegerTypes.{promote}
use Rattle.bk_arithmetic.specs.Words.{is_word}
use Rattle.c_tree.specs.declared.expressions.UnaryOp.TheVariants as u
use Rattle.c_tree.specs.declared.expressions.BinaryOp.{BinaryOp}
use Rattle.c_tree.specs.declared.expressions.BinaryOp.TheVariants as b
use Rattle.c_typed_tree.specs.Types.{PlainType, Pointer}
use Rattle.c_typed_tree.specs.Expressions.{Expr, Number, Unary, Binary, Conditional, Cast, Convert, type_of}
use Rattle.lowering_code.specs.Expressions.{plain_of}
use Rattle.lowering_states.specs.lowering_values.Laws.{is_shift_operator}
use Rattle.lowering_expression_laws.specs.Parts.{Setting, ExprMeets}

-- a scalar type: an integer type or a pointer
abbrev pub IsScalarType : PlainType → Type 0
IsScalarType ty = ((t : IntegerType) × (ty ≡ plain_of t)) ⊎ ((target : PlainType) × (ty ≡ Pointer target))

-- `&&` and `||` are no operators between values
abbrev pub is_logical_operator : BinaryOp → Bool
is_logical_operator b.LogicalOr = true
is_logical_operator b.LogicalAnd = true
is_logical_operator op = false

-- the type of an operator in an integer type: that of a comparison is `int`
abbrev pub result_type : BinaryOp → IntegerType → IntegerType
result_type b.Equal t = i.Int
result_type b.NotEqual t = i.Int
result_type b.Less t = i.Int
result_type b.Greater t = i.Int
result_type b.LessEqual t = i.Int
result_type b.GreaterEqual t = i.Int
result_type op t = t

-- the code of each of these forms does what the form does, where that of its parts does
pub record Forms (c : Setting) : Type 0 where
  pub numbers : (t : IntegerType) (k : ℕ) → is_word t k ≡ true → ExprMeets c (Number (plain_of t) k)
  pub pluses : (ty : PlainType) (x : Expr) → type_of x ≡ ty → ExprMeets c x → ExprMeets c (Unary ty u.Plus x)
  pub negations : (t : IntegerType) (x : Expr) → promote t ≡ t → type_of x ≡ plain_of t → ExprMeets c x
      → ExprMeets c (Unary (plain_of t) u.Minus x)
  pub complements : (t : IntegerType) (x : Expr) → promote t ≡ t → type_of x ≡ plain_of t → ExprMeets c x
      → ExprMeets c (Unary (plain_of t) u.Invert x)
  pub operators : (op : BinaryOp) (t o : IntegerType) (x y : Expr) → is_logical_operator op ≡ false → promote t ≡ t
      → (is_shift_operator op ≡ false → o ≡ t) → type_of x ≡ plain_of t → type_of y ≡ plain_of o → ExprMeets c x
      → ExprMeets c y → ExprMeets c (Binary (plain_of (result_type op t)) op x y)
  pub conversions : (t o : IntegerType) (x : Expr) → type_of x ≡ plain_of t → ExprMeets c x
      → ExprMeets c (Convert (plain_of o) x)
  pub casts : (t o : IntegerType) (x : Expr) → type_of x ≡ plain_of t → ExprMeets c x
      → ExprMeets c (Cast (plain_of o) x)
  pub conjunctions : (x y : Expr) → IsScalarType (type_of x) → IsScalarType (type_of y) → ExprMeets c x
      → ExprMeets c y → ExprMeets c (Binary (plain_of i.Int) b.LogicalAnd x y)
  pub disjunctions : (x y : Expr) → IsScalarType (type_of x) → IsScalarType (type_of y) → ExprMeets c x
      → ExprMeets c y → ExprMeets c (Binary (plain_of i.Int) b.LogicalOr x y)
  pub choices : (ty : PlainType) (x y z : Expr) → IsScalarType (type_of x) → type_of y ≡ ty → type_of z ≡ ty
      → ExprMeets c x → ExprMeets c y → ExprMeets c z → ExprMeets c (Conditional ty x y z)

abbrev pub FormsMeet : Type 0
FormsMeet = (c : Setting) → slice_get c.functions c.number ≡ Some c.code → Forms c
