-- The statements, expressions and locals of a function.
use Rattle.std.specs.Prelude.{ℕ, ◌+◌, length, sum_by, Option, Some, None}
use Rattle.c_typed_tree.specs.declared.units.TypedFn.{TypedFn}
use Rattle.c_typed_tree.specs.Expressions.{Expr, Number, Local, Global, Call, Unary, Binary, Assign, Conditional, Cast, Convert, Index, Field, Arrow, Postfix, Comma, Exprs, no_exprs, more_exprs}
use Rattle.c_typed_tree.specs.Statements.{LocalDeclaration, First, Nothing, Value, Locals, Stmt, Block, If, While, Do, For, Switch, Break, Continue, Return, Expression, Empty, Declare, Else, no_else, else_stmt, Stmts, no_stmts, more_stmts, Sections, no_sections, more_sections}
use Rattle.c_typed_tree.specs.View.{stmt_view}

abbrev mutual
  pub expr_nodes : Expr → ℕ
  expr_nodes (Number ty n) = 1
  expr_nodes (Local ty k) = 1
  expr_nodes (Global ty k) = 1
  expr_nodes (Call ty callee xs) = 1 + exprs_nodes xs
  expr_nodes (Unary ty op x) = 1 + expr_nodes x
  expr_nodes (Binary ty op x y) = 1 + expr_nodes x + expr_nodes y
  expr_nodes (Assign ty op x y) = 1 + expr_nodes x + expr_nodes y
  expr_nodes (Conditional ty x y z) = 1 + expr_nodes x + expr_nodes y + expr_nodes z
  expr_nodes (Cast ty x) = 1 + expr_nodes x
  expr_nodes (Convert ty x) = 1 + expr_nodes x
  expr_nodes (Index ty x y) = 1 + expr_nodes x + expr_nodes y
  expr_nodes (Field ty x member) = 1 + expr_nodes x
  expr_nodes (Arrow ty x member) = 1 + expr_nodes x
  expr_nodes (Postfix ty op x) = 1 + expr_nodes x
  expr_nodes (Comma ty xs) = 1 + exprs_nodes xs

  pub exprs_nodes : Exprs → ℕ
  exprs_nodes no_exprs = 0
  exprs_nodes (more_exprs x xs) = expr_nodes x + exprs_nodes xs

abbrev pub optional_nodes : Option Expr → ℕ
optional_nodes None = 0
optional_nodes (Some x) = expr_nodes x

abbrev pub declared_nodes : LocalDeclaration → ℕ
declared_nodes d = optional_nodes d.init

abbrev pub first_part_nodes : First → ℕ
first_part_nodes Nothing = 0
first_part_nodes (Value x) = expr_nodes x
first_part_nodes (Locals ds) = sum_by declared_nodes ds

abbrev mutual
  pub stmt_nodes : Stmt → ℕ
  stmt_nodes (Block ss) = 1 + stmts_nodes ss
  stmt_nodes (If x s h) = 1 + expr_nodes x + stmt_nodes s + else_nodes h
  stmt_nodes (While x s) = 1 + expr_nodes x + stmt_nodes s
  stmt_nodes (Do s x) = 1 + expr_nodes x + stmt_nodes s
  stmt_nodes (For first x y s) = 1 + first_part_nodes first + optional_nodes x + optional_nodes y + stmt_nodes s
  stmt_nodes (Switch x ss) = 1 + expr_nodes x + sections_nodes ss
  stmt_nodes Break = 1
  stmt_nodes Continue = 1
  stmt_nodes (Return x) = 1 + optional_nodes x
  stmt_nodes (Expression x) = 1 + expr_nodes x
  stmt_nodes Empty = 1
  stmt_nodes (Declare d) = 1 + declared_nodes d

  pub else_nodes : Else → ℕ
  else_nodes no_else = 0
  else_nodes (else_stmt s) = stmt_nodes s

  pub stmts_nodes : Stmts → ℕ
  stmts_nodes no_stmts = 0
  stmts_nodes (more_stmts s ss) = stmt_nodes s + stmts_nodes ss

  pub sections_nodes : Sections → ℕ
  sections_nodes no_sections = 0
  sections_nodes (more_sections label ss rest) = stmts_nodes ss + sections_nodes rest

abbrev pub function_nodes : TypedFn → ℕ
function_nodes f = length f.locals + stmt_nodes (stmt_view f.body)
