-- Integer constants (C99 6.6): what they are built of, and the values of those that neither trap nor are undefined.
use Rattle.std.specs.Prelude.{ℕ, Bool, true, false, not, ◌&&◌, ◌==◌, is_some, Option, Some, None, option_map, option_and_then, if◌then◌else◌}
use Rattle.bk_arithmetic.specs.declared.integer_type.IntegerType.{IntegerType}
use Rattle.bk_arithmetic.specs.declared.outcome.ArithmeticOutcome.{ArithmeticOutcome}
use Rattle.bk_arithmetic.specs.declared.outcome.ArithmeticOutcome.TheVariants as o
use Rattle.bk_arithmetic.specs.Operations.{conversion, sum, difference, product, negation, quotient, remainder, conjunction, disjunction, exclusive_disjunction, complement, left_shift, right_shift, is_less, is_less_or_equal, is_equal, truth}
use Rattle.c_tree.specs.declared.expressions.UnaryOp.{UnaryOp}
use Rattle.c_tree.specs.declared.expressions.UnaryOp.TheVariants as u
use Rattle.c_tree.specs.declared.expressions.BinaryOp.{BinaryOp}
use Rattle.c_tree.specs.declared.expressions.BinaryOp.TheVariants as b
use Rattle.c_typed_tree.specs.Types.{PlainType}
use Rattle.c_typed_tree.specs.Expressions.{Expr, Number, Local, Global, Call, Unary, Binary, Assign, Conditional, Cast, Convert, Index, Field, Arrow, Postfix, Comma, Exprs, no_exprs, more_exprs, type_of}
use Rattle.c_typed_tree.specs.Layout.{integer_of}

-- ---- operators

-- an operator between two integers of one type; the count of a shift has a type of its own. `&&` and `||` are none
abbrev pub integers_with : BinaryOp → (t count : IntegerType) → ℕ → ℕ → ArithmeticOutcome
integers_with b.Or t c x y = o.Word (disjunction t x y)
integers_with b.Xor t c x y = o.Word (exclusive_disjunction t x y)
integers_with b.And t c x y = o.Word (conjunction t x y)
integers_with b.Equal t c x y = o.Word (truth (is_equal t x y))
integers_with b.NotEqual t c x y = o.Word (truth (not (is_equal t x y)))
integers_with b.Less t c x y = o.Word (truth (is_less t x y))
integers_with b.Greater t c x y = o.Word (truth (is_less t y x))
integers_with b.LessEqual t c x y = o.Word (truth (is_less_or_equal t x y))
integers_with b.GreaterEqual t c x y = o.Word (truth (is_less_or_equal t y x))
integers_with b.ShiftLeft t c x y = left_shift t c x y
integers_with b.ShiftRight t c x y = right_shift t c x y
integers_with b.Add t c x y = sum t x y
integers_with b.Subtract t c x y = difference t x y
integers_with b.Multiply t c x y = product t x y
integers_with b.Divide t c x y = quotient t x y
integers_with b.Remainder t c x y = remainder t x y
integers_with b.LogicalOr t c x y = o.Undefined
integers_with b.LogicalAnd t c x y = o.Undefined

-- the word of what neither traps nor is undefined
abbrev pub word_of : ArithmeticOutcome → Option ℕ
word_of (o.Word n) = Some n
word_of (o.Trap code) = None
word_of o.Undefined = None

-- an operator in front of an integer
abbrev pub integer_with : UnaryOp → IntegerType → ℕ → Option ℕ
integer_with u.Plus t x = Some x
integer_with u.Minus t x = word_of (negation t x)
integer_with u.Invert t x = Some (complement t x)
integer_with u.Not t x = Some (truth (x == 0))
integer_with _ t x = None

-- the same by the types of the operands, which are integer types
abbrev pub unary_value : UnaryOp → Option IntegerType → ℕ → Option ℕ
unary_value op None x = None
unary_value op (Some t) x = integer_with op t x

abbrev pub binary_value : BinaryOp → (left right : Option IntegerType) → ℕ → ℕ → Option ℕ
binary_value op (Some t) (Some c) x y = word_of (integers_with op t c x y)
binary_value op _ _ x y = None

abbrev pub converted_value : (from to : Option IntegerType) → ℕ → Option ℕ
converted_value (Some s) (Some t) x = Some (conversion s t x)
converted_value _ _ x = None

-- ---- what constants are built of

abbrev pub is_integer : PlainType → Bool
is_integer ty = is_some (integer_of ty)

-- the operators without effects that are no pointers' own
abbrev pub is_pure_operator : UnaryOp → Bool
is_pure_operator u.Plus = true
is_pure_operator u.Minus = true
is_pure_operator u.Invert = true
is_pure_operator u.Not = true
is_pure_operator _ = false

-- built of literals, conversions to integer types, and operators without effects, all of integer types. Enumeration
-- constants and `sizeof` are literals of the tree
abbrev mutual
  pub is_built : Expr → Bool
  is_built (Number ty n) = is_integer ty
  is_built (Local ty k) = false
  is_built (Global ty k) = false
  is_built (Call ty callee es) = false
  is_built (Unary ty op x) = is_integer ty && is_pure_operator op && is_built x
  is_built (Binary ty op x y) = is_integer ty && is_built x && is_built y
  is_built (Assign ty op x y) = false
  is_built (Conditional ty x y z) = is_integer ty && is_built x && is_built y && is_built z
  is_built (Cast ty x) = is_integer ty && is_built x
  is_built (Convert ty x) = is_integer ty && is_built x
  is_built (Index ty x y) = false
  is_built (Field ty x member) = false
  is_built (Arrow ty x member) = false
  is_built (Postfix ty op x) = false
  is_built (Comma ty xs) = is_integer ty && are_built xs

  pub are_built : Exprs → Bool
  are_built no_exprs = true
  are_built (more_exprs x xs) = is_built x && are_built xs

-- ---- values

-- `&&`, `||` and `?:` take what they need; an operand that is not evaluated has to be built as the others are
abbrev pub and_value : Option ℕ → (built : Bool) → Option ℕ → Option ℕ
and_value (Some x) true y = if x == 0 then Some 0 else option_map (λ n. truth (not (n == 0))) y
and_value _ built y = None

abbrev pub or_value : Option ℕ → (built : Bool) → Option ℕ → Option ℕ
or_value (Some x) true y = if x == 0 then option_map (λ n. truth (not (n == 0))) y else Some 1
or_value _ built y = None

abbrev pub choice_value : Option ℕ → (built : Bool) → (holds fails : Option ℕ) → Option ℕ
choice_value (Some x) true holds fails = if x == 0 then fails else holds
choice_value _ built holds fails = None

abbrev pub both_values : (ℕ → ℕ → Option ℕ) → (x y : Option ℕ) → Option ℕ
both_values f x y = option_and_then (λ n. option_and_then (f n) y) x

abbrev pub value_with : BinaryOp → (left right : Option IntegerType) → (x : Option ℕ) → (built : Bool) → (y : Option ℕ)
    → Option ℕ
value_with b.LogicalAnd left right x built y = and_value x built y
value_with b.LogicalOr left right x built y = or_value x built y
value_with op left right x built y = both_values (binary_value op left right) x y

-- the value of an integer constant, as a word of its type; None of what is no integer constant
abbrev mutual
  pub constant : Expr → Option ℕ
  constant (Number ty n) = if is_integer ty then Some n else None
  constant (Local ty k) = None
  constant (Global ty k) = None
  constant (Call ty callee es) = None
  constant (Unary ty op x) = option_and_then (unary_value op (integer_of (type_of x))) (constant x)
  constant (Binary ty op x y) =
      value_with op (integer_of (type_of x)) (integer_of (type_of y)) (constant x) (is_built y) (constant y)
  constant (Assign ty op x y) = None
  constant (Conditional ty x y z) = choice_value (constant x) (is_built y && is_built z) (constant y) (constant z)
  constant (Cast ty x) = option_and_then (converted_value (integer_of (type_of x)) (integer_of ty)) (constant x)
  constant (Convert ty x) = option_and_then (converted_value (integer_of (type_of x)) (integer_of ty)) (constant x)
  constant (Index ty x y) = None
  constant (Field ty x member) = None
  constant (Arrow ty x member) = None
  constant (Postfix ty op x) = None
  constant (Comma ty no_exprs) = None
  constant (Comma ty (more_exprs x xs)) = last_value (constant x) xs

  -- the last of the operands of commas, of which the first one is given; each is a constant
  pub last_value : Option ℕ → Exprs → Option ℕ
  last_value first no_exprs = first
  last_value first (more_exprs x xs) = option_and_then (λ _. last_value (constant x) xs) first

-- the integer constant 0, which is a null pointer where a pointer is wanted (C99 6.3.2.3)
abbrev pub is_zero : Option ℕ → Bool
is_zero None = false
is_zero (Some n) = n == 0

abbrev pub is_null_constant : Expr → Bool
is_null_constant x = is_zero (constant x)
