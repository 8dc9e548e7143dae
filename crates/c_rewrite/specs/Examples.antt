-- Expressions at the edges of the rules, each as C text, and as its tree. `i` and `j` are locals of type `int` and `u`
-- is one of type `unsigned`, all in registers; `m` is a local in memory and `g` an object of static storage.
use Rattle.std.specs.Prelude.{ℕ, Bool, true, false, List, [], ◌∷◌}
use Rattle.c_tree.specs.declared.expressions.UnaryOp.TheVariants as u
use Rattle.c_tree.specs.declared.expressions.BinaryOp.{BinaryOp}
use Rattle.c_tree.specs.declared.expressions.BinaryOp.TheVariants as b
use Rattle.c_tree.specs.declared.expressions.AssignOp.TheVariants as a
use Rattle.c_tree.specs.declared.expressions.StepOp.TheVariants as s
use Rattle.c_typed_tree.specs.declared.expressions.Callee.TheVariants as c
use Rattle.c_typed_tree.specs.declared.types.CType as t
use Rattle.c_typed_tree.specs.declared.units.Local.{Local}
use Rattle.c_typed_tree.specs.Types.{PlainType, Int, Pointer}
use Rattle.c_typed_tree.specs.Expressions as e
use Rattle.c_typed_tree.specs.Expressions.{Expr, no_exprs, more_exprs}

abbrev pub int : PlainType
int = Int 4 true

abbrev pub unsigned_type : PlainType
unsigned_type = Int 4 false

abbrev pub char_type : PlainType
char_type = Int 1 true

abbrev pub long : PlainType
long = Int 8 true

abbrev local : (in_memory : Bool) → Local
local in_memory = record { ty = t.Int 4 true; in_memory = in_memory }

abbrev pub locals : List Local
locals = local false ∷ local false ∷ record { ty = t.Int 4 false; in_memory = false } ∷ local true ∷ []

abbrev pub number : ℕ → Expr
number n = e.Number int n

abbrev pub i : Expr
i = e.Local int 0

abbrev pub j : Expr
j = e.Local int 1

abbrev pub u_ : Expr
u_ = e.Local unsigned_type 2

abbrev pub m : Expr
m = e.Local int 3

-- a value of type `char`
abbrev pub c_ : Expr
c_ = e.Cast char_type i

abbrev pub g : Expr
g = e.Global int 0

-- `f()`
abbrev pub call : Expr
call = e.Call int (c.Function 0) no_exprs

abbrev pub of_ints : BinaryOp → Expr → Expr → Expr
of_ints op x y = e.Binary int op x y

-- `2+3*4`
abbrev pub sum_of_product : Expr
sum_of_product = of_ints b.Add (number 2) (of_ints b.Multiply (number 3) (number 4))

-- `2147483647+1`, which traps, and `4294967295u+2u`, which wraps to 1
abbrev pub overflowing : Expr
overflowing = of_ints b.Add (number 2147483647) (number 1)

abbrev pub wrapping : Expr
wrapping = e.Binary unsigned_type b.Add (e.Number unsigned_type 18446744073709551615) (e.Number unsigned_type 2)

-- `1/0` traps, and `1<<32` is undefined
abbrev pub by_zero : Expr
by_zero = of_ints b.Divide (number 1) (number 0)

abbrev pub literal_shift : Expr
literal_shift = of_ints b.ShiftLeft (number 1) (number 32)

-- `(char)300`
abbrev pub narrowed : Expr
narrowed = e.Cast char_type (number 300)

-- `(1,2)` and `1?2:3`
abbrev pub literal_commas : Expr
literal_commas = e.Comma int (more_exprs (number 1) (more_exprs (number 2) no_exprs))

abbrev pub literal_choice : Expr
literal_choice = e.Conditional int (number 1) (number 2) (number 3)

-- `x op n` and `n op x`
abbrev pub with_right : BinaryOp → Expr → ℕ → Expr
with_right op x n = of_ints op x (number n)

abbrev pub with_left : BinaryOp → ℕ → Expr → Expr
with_left op n x = of_ints op (number n) x

-- `i=j`, `i++`, `*&m`, `i+j`, `i/j`, `u+u`
abbrev pub assigned_local : Expr
assigned_local = e.Assign int a.Set i j

abbrev pub step : Expr
step = e.Postfix int s.Increment i

abbrev pub through_pointer : Expr
through_pointer = e.Unary int u.Dereference (e.Unary (Pointer int) u.Address m)

abbrev pub signed_sum : Expr
signed_sum = of_ints b.Add i j

abbrev pub local_quotient : Expr
local_quotient = of_ints b.Divide i j

abbrev pub unsigned_sum : Expr
unsigned_sum = e.Binary unsigned_type b.Add u_ u_

-- `u*0` and `(u+u)*0`
abbrev pub unsigned_by_zero : Expr → Expr
unsigned_by_zero x = e.Binary unsigned_type b.Multiply x (e.Number unsigned_type 0)

-- `!0?i:j`
abbrev pub not_zero_chooses : Expr
not_zero_chooses = e.Conditional int (e.Unary int u.Not (number 0)) i j

-- `2&&i`, `0||i` and what they become
abbrev pub truth_of_i : Expr
truth_of_i = e.Unary int u.Not (e.Unary int u.Not i)
