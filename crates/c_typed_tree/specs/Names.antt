-- What a tree names: locals, globals and functions, by their numbers.
use Rattle.std.specs.Prelude.{ℕ, ◌==◌, Bool, true, false, ◌||◌, Option, Some, None}
use Rattle.std.specs.List.{list_any}
use Rattle.c_typed_tree.specs.declared.expressions.Builtin.{Builtin}
use Rattle.c_typed_tree.specs.declared.expressions.Builtin.TheVariants.{Putchar, Getchar, Abort, Exit}
use Rattle.c_typed_tree.specs.declared.expressions.Callee.{Callee}
use Rattle.c_typed_tree.specs.declared.expressions.Callee.TheVariants as c
use Rattle.c_typed_tree.specs.Expressions.{Expr, Number, Local, Global, Call, Unary, Binary, Assign, Conditional, Cast, Convert, Index, Field, Arrow, Postfix, Comma, Exprs, no_exprs, more_exprs}
use Rattle.c_typed_tree.specs.Statements.{LocalDeclaration, First, Nothing, Value, Locals, Stmt, Block, If, While, Do, For, Switch, Break, Continue, Return, Expression, Empty, Declare, Else, no_else, else_stmt, Stmts, no_stmts, more_stmts, Sections, no_sections, more_sections}

pub data Referent : Type 0 where
  ALocal : (number : ℕ) → Referent
  AGlobal : (number : ℕ) → Referent
  AFunction : Callee → Referent

abbrev pub is_same_builtin : Builtin → Builtin → Bool
is_same_builtin Putchar Putchar = true
is_same_builtin Getchar Getchar = true
is_same_builtin Abort Abort = true
is_same_builtin Exit Exit = true
is_same_builtin f g = false

abbrev pub is_same_callee : Callee → Callee → Bool
is_same_callee (c.Function n) (c.Function m) = n == m
is_same_callee (c.Builtin f) (c.Builtin g) = is_same_builtin f g
is_same_callee f g = false

abbrev pub is_local : Referent → ℕ → Bool
is_local (ALocal n) k = n == k
is_local name k = false

abbrev pub is_global : Referent → ℕ → Bool
is_global (AGlobal n) k = n == k
is_global name k = false

abbrev pub is_callee : Referent → Callee → Bool
is_callee (AFunction f) g = is_same_callee f g
is_callee name g = false

abbrev mutual
  pub names : Referent → Expr → Bool
  names a (Number ty n) = false
  names a (Local ty k) = is_local a k
  names a (Global ty k) = is_global a k
  names a (Call ty callee xs) = is_callee a callee || any_names a xs
  names a (Unary ty op x) = names a x
  names a (Binary ty op x y) = names a x || names a y
  names a (Assign ty op x y) = names a x || names a y
  names a (Conditional ty x y z) = names a x || names a y || names a z
  names a (Cast ty x) = names a x
  names a (Convert ty x) = names a x
  names a (Index ty x y) = names a x || names a y
  names a (Field ty x member) = names a x
  names a (Arrow ty x member) = names a x
  names a (Postfix ty op x) = names a x
  names a (Comma ty xs) = any_names a xs

  pub any_names : Referent → Exprs → Bool
  any_names a no_exprs = false
  any_names a (more_exprs x xs) = names a x || any_names a xs

abbrev pub optional_names : Referent → Option Expr → Bool
optional_names a None = false
optional_names a (Some x) = names a x

abbrev pub declared_names : Referent → LocalDeclaration → Bool
declared_names a d = is_local a d.number || optional_names a d.init

abbrev pub first_names : Referent → First → Bool
first_names a Nothing = false
first_names a (Value x) = names a x
first_names a (Locals ds) = list_any (declared_names a) ds

abbrev mutual
  pub stmt_names : Referent → Stmt → Bool
  stmt_names a (Block ss) = stmts_names a ss
  stmt_names a (If x s h) = names a x || stmt_names a s || else_names a h
  stmt_names a (While x s) = names a x || stmt_names a s
  stmt_names a (Do s x) = stmt_names a s || names a x
  stmt_names a (For first x y s) = first_names a first || optional_names a x || optional_names a y || stmt_names a s
  stmt_names a (Switch x ss) = names a x || sections_names a ss
  stmt_names a Break = false
  stmt_names a Continue = false
  stmt_names a (Return x) = optional_names a x
  stmt_names a (Expression x) = names a x
  stmt_names a Empty = false
  stmt_names a (Declare d) = declared_names a d

  pub else_names : Referent → Else → Bool
  else_names a no_else = false
  else_names a (else_stmt s) = stmt_names a s

  pub stmts_names : Referent → Stmts → Bool
  stmts_names a no_stmts = false
  stmts_names a (more_stmts s ss) = stmt_names a s || stmts_names a ss

  pub sections_names : Referent → Sections → Bool
  sections_names a no_sections = false
  sections_names a (more_sections label ss rest) = stmts_names a ss || sections_names a rest
