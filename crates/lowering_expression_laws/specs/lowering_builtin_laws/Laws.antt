-- What is said of the code of calls of built-in functions.
use Rattle.std.specs.Prelude.{◌≡◌, slice_get, Some}
use Rattle.bk_arithmetic.specs.declared.integer_type.IntegerType.TheVariants as i
use Rattle.c_typed_tree.specs.declared.expressions.Builtin.TheVariants.{Putchar, Getchar, Abort, Exit}
use Rattle.c_typed_tree.specs.declared.expressions.Callee.TheVariants.{Builtin}
use Rattle.c_typed_tree.specs.Types.{Void}
use Rattle.c_typed_tree.specs.Expressions.{Expr, Call, no_exprs, more_exprs, type_of}
use Rattle.lowering_code.specs.Expressions.{plain_of}
use Rattle.lowering_expression_laws.specs.Parts.{Setting, ExprMeets}

pub record Builtins (c : Setting) : Type 0 where
  pub getchar : ExprMeets c (Call (plain_of i.Int) (Builtin Getchar) no_exprs)
  pub putchar : (x : Expr) → type_of x ≡ plain_of i.Int → ExprMeets c x
      → ExprMeets c (Call (plain_of i.Int) (Builtin Putchar) (more_exprs x no_exprs))
  pub abort : ExprMeets c (Call Void (Builtin Abort) no_exprs)
  pub exits : (x : Expr) → type_of x ≡ plain_of i.Int → ExprMeets c x
      → ExprMeets c (Call Void (Builtin Exit) (more_exprs x no_exprs))

abbrev pub BuiltinsMeet : Type 0
BuiltinsMeet = (c : Setting) → slice_get c.functions c.number ≡ Some c.code → Builtins c
