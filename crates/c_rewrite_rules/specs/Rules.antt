-- What the rules make of an expression: what stands in the first row that holds, and the expression as it is where
-- none does. An integer literal is a number of the tree; the words that are compared are those of its type.
use Rattle.std.specs.Prelude.{ℕ, ◌==◌, nat_le, nat_lt, Bool, true, false, not, ◌&&◌, ◌||◌, List, slice_get, Option, Some, None, if◌then◌else◌}
use Rattle.c_tree.specs.declared.expressions.UnaryOp.TheVariants as u
use Rattle.c_tree.specs.declared.expressions.BinaryOp.{BinaryOp}
use Rattle.c_tree.specs.declared.expressions.BinaryOp.TheVariants as b
use Rattle.c_typed_tree.specs.declared.units.Local as l
use Rattle.c_typed_tree.specs.Types.{PlainType, Int}
use Rattle.c_typed_tree.specs.Expressions.{Expr, Number, Local, Global, Call, Unary, Binary, Assign, Conditional, Cast, Convert, Index, Field, Arrow, Postfix, Comma, Exprs, no_exprs, more_exprs, type_of}
use Rattle.c_typed_tree.specs.Constants.{is_integer, constant}
use Rattle.c_typed_tree.specs.Typing.{is_same_type, is_array, is_pointer, is_memory_local}

-- ---- literals

-- the word of an integer literal
abbrev pub literal_of : Expr → Option ℕ
literal_of (Number ty n) = Some n
literal_of _ = None

abbrev pub passes_test : (ℕ → Bool) → Option ℕ → Bool
passes_test test None = false
passes_test test (Some n) = test n

-- an integer literal whose word passes a test
abbrev pub is_literal_with : (ℕ → Bool) → Expr → Bool
is_literal_with test x = passes_test test (literal_of x)

abbrev pub is_literal : Expr → Bool
is_literal x = is_literal_with (λ n. true) x

abbrev pub are_literals : Exprs → Bool
are_literals no_exprs = true
are_literals (more_exprs x xs) = is_literal x && are_literals xs

-- ---- FoldConst

-- an operator or a conversion with integer literals alone
abbrev pub is_over_literals : Expr → Bool
is_over_literals (Unary ty op x) = is_literal x
is_over_literals (Binary ty op x y) = is_literal x && is_literal y
is_over_literals (Conditional ty x y z) = is_literal x && is_literal y && is_literal z
is_over_literals (Cast ty x) = is_literal x
is_over_literals (Convert ty x) = is_literal x
is_over_literals (Comma ty xs) = are_literals xs
is_over_literals x = false

abbrev pub literal_or : Expr → Option ℕ → Expr
literal_or x None = x
literal_or x (Some n) = Number (type_of x) n

-- what neither traps nor is undefined becomes its literal
abbrev pub folded : Expr → Expr
folded x = if is_over_literals x then literal_or x (constant x) else x

-- ---- Simplify

-- the operators that leave the left operand as it is, by the literal on the right: x+0, x-0, x*1, x|0, x^0, x<<0, x>>0
abbrev pub keeps_left : BinaryOp → ℕ → Bool
keeps_left b.Add n = n == 0
keeps_left b.Subtract n = n == 0
keeps_left b.Multiply n = n == 1
keeps_left b.Or n = n == 0
keeps_left b.Xor n = n == 0
keeps_left b.ShiftLeft n = n == 0
keeps_left b.ShiftRight n = n == 0
keeps_left _ n = false

-- those that leave the right operand, by the literal on the left: 0+x, 1*x
abbrev pub keeps_right : BinaryOp → ℕ → Bool
keeps_right b.Add n = n == 0
keeps_right b.Multiply n = n == 1
keeps_right _ n = false

abbrev pub is_multiply : BinaryOp → Bool
is_multiply b.Multiply = true
is_multiply _ = false

abbrev pub is_signed_integer : PlainType → Bool
is_signed_integer (Int bytes signed) = signed
is_signed_integer _ = false

-- the operators that may trap: division and remainder, and sums, differences and products of signed integers, as no
-- step of a pointer is one
abbrev pub may_trap : BinaryOp → (left right : PlainType) → Bool
may_trap b.Divide left right = true
may_trap b.Remainder left right = true
may_trap b.Add left right = is_signed_integer left && not (is_pointer right)
may_trap b.Subtract left right = is_signed_integer left && not (is_pointer right)
may_trap b.Multiply left right = is_signed_integer left && not (is_pointer right)
may_trap _ left right = false

-- nothing is called, assigned, stepped or loaded, and no operator may trap: so nothing but the value comes of it. What
-- stands in memory is loaded where its value is wanted; a local that a register holds is not. A place alone is computed
-- without a load of what stands there
abbrev mutual
  pub is_idle : List l.Local → Expr → Bool
  is_idle ls (Number ty n) = true
  is_idle ls (Local ty k) = not (is_memory_local (slice_get ls k))
  is_idle ls (Global ty k) = false
  is_idle ls (Call ty callee xs) = false
  is_idle ls (Unary ty u.Address x) = is_idle_place ls x
  is_idle ls (Unary ty u.Plus x) = is_idle ls x
  is_idle ls (Unary ty u.Minus x) = not (is_signed_integer ty) && is_idle ls x
  is_idle ls (Unary ty u.Invert x) = is_idle ls x
  is_idle ls (Unary ty u.Not x) = is_idle ls x
  is_idle ls (Unary ty u.Increment x) = false
  is_idle ls (Unary ty u.Decrement x) = false
  is_idle ls (Unary ty u.Dereference x) = false
  is_idle ls (Binary ty op x y) = not (may_trap op (type_of x) (type_of y)) && is_idle ls x && is_idle ls y
  is_idle ls (Assign ty op x y) = false
  is_idle ls (Conditional ty x y z) = is_idle ls x && is_idle ls y && is_idle ls z
  is_idle ls (Cast ty x) = if is_array (type_of x) then is_idle_place ls x else is_idle ls x
  is_idle ls (Convert ty x) = if is_array (type_of x) then is_idle_place ls x else is_idle ls x
  is_idle ls (Index ty x y) = false
  is_idle ls (Field ty x member) = false
  is_idle ls (Arrow ty x member) = false
  is_idle ls (Postfix ty op x) = false
  is_idle ls (Comma ty xs) = are_idle ls xs

  pub is_idle_place : List l.Local → Expr → Bool
  is_idle_place ls (Local ty k) = true
  is_idle_place ls (Global ty k) = true
  is_idle_place ls (Unary ty u.Dereference x) = is_idle ls x
  is_idle_place ls (Index ty x y) = is_idle ls x && is_idle ls y
  is_idle_place ls (Field ty x member) = is_idle_place ls x
  is_idle_place ls (Arrow ty x member) = is_idle ls x
  is_idle_place ls x = false

  pub are_idle : List l.Local → Exprs → Bool
  are_idle ls no_exprs = true
  are_idle ls (more_exprs x xs) = is_idle ls x && are_idle ls xs

abbrev pub is_zero_product : List l.Local → BinaryOp → Expr → Expr → Bool
is_zero_product ls op x y =
    is_multiply op
    && (is_literal_with (λ n. n == 0) y && is_idle ls x || is_literal_with (λ n. n == 0) x && is_idle ls y)

abbrev pub simplified_binary : List l.Local → PlainType → BinaryOp → Expr → Expr → Expr
simplified_binary ls ty op x y =
    if is_literal_with (keeps_left op) y then x
    else if is_literal_with (keeps_right op) x then y
    else if is_zero_product ls op x y then Number ty 0
    else Binary ty op x y

-- the second integer type has all values of the first one
abbrev pub holds_all : PlainType → PlainType → Bool
holds_all (Int n true) (Int m true) = nat_le n m
holds_all (Int n true) (Int m false) = false
holds_all (Int n false) (Int m true) = nat_lt n m
holds_all (Int n false) (Int m false) = nat_le n m
holds_all from to = false

abbrev pub integer_bytes : PlainType → ℕ
integer_bytes (Int n signed) = n
integer_bytes ty = 0

-- of two conversions between integer types the first may be left out where it is no narrower than the second, or has
-- all values of what it converts
abbrev pub leaves_out : (from middle to : PlainType) → Bool
leaves_out from middle to =
    is_integer from && is_integer middle && is_integer to
    && (nat_le (integer_bytes to) (integer_bytes middle) || holds_all from middle)

-- an operand is a conversion that may be left out below one to a type
abbrev pub is_left_out : (to : PlainType) → Expr → Bool
is_left_out ty (Convert middle x) = leaves_out (type_of x) middle ty
is_left_out ty x = false

abbrev pub first_operand : Expr → Expr
first_operand (Convert middle x) = x
first_operand x = x

abbrev pub simplified_twice : PlainType → Expr → Expr
simplified_twice ty x = if is_left_out ty x then Convert ty (first_operand x) else Convert ty x

abbrev pub simplified_conversion : PlainType → Expr → Expr
simplified_conversion ty x = if is_integer ty && is_same_type (type_of x) ty then x else simplified_twice ty x

-- in a function with these locals
abbrev pub simplified : List l.Local → Expr → Expr
simplified ls (Binary ty op x y) = simplified_binary ls ty op x y
simplified ls (Convert ty x) = simplified_conversion ty x
simplified ls x = x

-- ---- DeadArm

-- 1 where a value is true, else 0
abbrev pub truth_of : PlainType → Expr → Expr
truth_of ty x = Unary ty u.Not (Unary ty u.Not x)

abbrev pub arm_by : Option ℕ → (whole holds fails : Expr) → Expr
arm_by None whole y z = whole
arm_by (Some n) whole y z = if n == 0 then z else y

abbrev pub chosen : PlainType → (condition holds fails : Expr) → Expr
chosen ty x y z = arm_by (literal_of x) (Conditional ty x y z) y z

abbrev pub pruned_and : PlainType → (left right : Expr) → Expr
pruned_and ty x y = arm_by (literal_of x) (Binary ty b.LogicalAnd x y) (truth_of ty y) (Number ty 0)

abbrev pub pruned_or : PlainType → (left right : Expr) → Expr
pruned_or ty x y = arm_by (literal_of x) (Binary ty b.LogicalOr x y) (Number ty 1) (truth_of ty y)

abbrev pub pruned_binary : PlainType → BinaryOp → (left right : Expr) → Expr
pruned_binary ty b.LogicalAnd x y = pruned_and ty x y
pruned_binary ty b.LogicalOr x y = pruned_or ty x y
pruned_binary ty op x y = Binary ty op x y

abbrev pub pruned : Expr → Expr
pruned (Conditional ty x y z) = chosen ty x y z
pruned (Binary ty op x y) = pruned_binary ty op x y
pruned x = x
