-- The height of typed trees: the greatest number of nodes that stand one under the other. Its nodes are expressions,
-- statements, locals that are declared, sections of a `switch`, and functions.
use Rattle.std.specs.Prelude.{ℕ, suc, max, List, [], ◌∷◌, Option, Some, None}
use Rattle.c_typed_tree.specs.declared.units.TypedFn.{TypedFn}
use Rattle.c_typed_tree.specs.declared.units.TypedUnit.{TypedUnit}
use Rattle.c_typed_tree.specs.Expressions.{Expr, Number, Local, Global, Call, Unary, Binary, Assign, Conditional, Cast, Convert, Index, Field, Arrow, Postfix, Comma, Exprs, no_exprs, more_exprs}
use Rattle.c_typed_tree.specs.Statements.{LocalDeclaration, First, Nothing, Value, Locals, Stmt, Block, If, While, Do, For, Switch, Break, Continue, Return, Expression, Empty, Declare, Else, no_else, else_stmt, Stmts, no_stmts, more_stmts, Sections, no_sections, more_sections}
use Rattle.c_typed_tree.specs.View.{stmt_view}

-- the height of a list is that of the tallest of its elements
abbrev pub list_height : {A : Type 0} → (A → ℕ) → List A → ℕ
list_height f [] = 0
list_height f (x ∷ xs) = max (f x) (list_height f xs)

abbrev mutual
  pub expr_height : Expr → ℕ
  expr_height (Number ty value) = 1
  expr_height (Local ty number) = 1
  expr_height (Global ty number) = 1
  expr_height (Call ty callee es) = suc (exprs_height es)
  expr_height (Unary ty op e) = suc (expr_height e)
  expr_height (Binary ty op e f) = suc (max (expr_height e) (expr_height f))
  expr_height (Assign ty op e f) = suc (max (expr_height e) (expr_height f))
  expr_height (Conditional ty e f g) = suc (max (expr_height e) (max (expr_height f) (expr_height g)))
  expr_height (Cast ty e) = suc (expr_height e)
  expr_height (Convert ty e) = suc (expr_height e)
  expr_height (Index ty e f) = suc (max (expr_height e) (expr_height f))
  expr_height (Field ty e member) = suc (expr_height e)
  expr_height (Arrow ty e member) = suc (expr_height e)
  expr_height (Postfix ty op e) = suc (expr_height e)
  expr_height (Comma ty es) = suc (exprs_height es)

  pub exprs_height : Exprs → ℕ
  exprs_height no_exprs = 0
  exprs_height (more_exprs e es) = max (expr_height e) (exprs_height es)

abbrev pub optional_height : Option Expr → ℕ
optional_height None = 0
optional_height (Some e) = expr_height e

abbrev pub declared_height : LocalDeclaration → ℕ
declared_height d = suc (optional_height d.init)

abbrev pub first_part_height : First → ℕ
first_part_height Nothing = 0
first_part_height (Value e) = expr_height e
first_part_height (Locals ds) = list_height declared_height ds

abbrev mutual
  pub stmt_height : Stmt → ℕ
  stmt_height (Block ss) = suc (stmts_height ss)
  stmt_height (If e s h) = suc (max (expr_height e) (max (stmt_height s) (else_height h)))
  stmt_height (While e s) = suc (max (expr_height e) (stmt_height s))
  stmt_height (Do s e) = suc (max (stmt_height s) (expr_height e))
  stmt_height (For first condition step s) =
      suc (max (first_part_height first) (max (optional_height condition) (max (optional_height step) (stmt_height s))))
  stmt_height (Switch e ss) = suc (max (expr_height e) (sections_height ss))
  stmt_height Break = 1
  stmt_height Continue = 1
  stmt_height (Return e) = suc (optional_height e)
  stmt_height (Expression e) = suc (expr_height e)
  stmt_height Empty = 1
  stmt_height (Declare d) = declared_height d

  pub else_height : Else → ℕ
  else_height no_else = 0
  else_height (else_stmt s) = stmt_height s

  pub stmts_height : Stmts → ℕ
  stmts_height no_stmts = 0
  stmts_height (more_stmts s ss) = max (stmt_height s) (stmts_height ss)

  pub sections_height : Sections → ℕ
  sections_height no_sections = 0
  sections_height (more_sections label ss rest) = max (suc (stmts_height ss)) (sections_height rest)

abbrev pub function_height : TypedFn → ℕ
function_height f = suc (stmt_height (stmt_view f.body))

abbrev pub typed_unit_height : TypedUnit → ℕ
typed_unit_height u = list_height function_height u.functions
