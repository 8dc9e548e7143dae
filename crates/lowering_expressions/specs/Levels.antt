-- How many depths of registers the code of an expression may take, from its own depth on.
use Rattle.std.specs.Prelude.{ℕ, ◌+◌, max}
use Rattle.c_typed_tree.specs.Expressions.{Expr, Number, Local, Global, Call, Unary, Binary, Assign, Conditional, Cast, Convert, Index, Field, Arrow, Postfix, Comma, Exprs, no_exprs, more_exprs}

-- each form has five for itself; a right operand stands above the left one, and each argument above the one before it
abbrev mutual
  pub register_levels : Expr → ℕ
  register_levels (Number ty word) = 5
  register_levels (Local ty k) = 5
  register_levels (Global ty k) = 5
  register_levels (Call ty callee xs) = max 5 (levels_above xs)
  register_levels (Unary ty op x) = max 5 (register_levels x)
  register_levels (Binary ty op x y) = max 5 (max (register_levels x) (1 + register_levels y))
  register_levels (Assign ty op x y) = max 5 (max (register_levels x) (1 + register_levels y))
  register_levels (Conditional ty x y z) = max 5 (max (register_levels x) (max (register_levels y) (register_levels z)))
  register_levels (Cast ty x) = max 5 (register_levels x)
  register_levels (Convert ty x) = max 5 (register_levels x)
  register_levels (Index ty x y) = max 5 (max (register_levels x) (1 + register_levels y))
  register_levels (Field ty x member) = max 5 (register_levels x)
  register_levels (Arrow ty x member) = max 5 (register_levels x)
  register_levels (Postfix ty op x) = max 5 (register_levels x)
  register_levels (Comma ty xs) = max 5 (levels_of_each xs)

  pub levels_above : Exprs → ℕ
  levels_above no_exprs = 0
  levels_above (more_exprs x xs) = max (register_levels x) (1 + levels_above xs)

  -- those of a comma expression all stand at one depth
  pub levels_of_each : Exprs → ℕ
  levels_of_each no_exprs = 0
  levels_of_each (more_exprs x xs) = max (register_levels x) (levels_of_each xs)
