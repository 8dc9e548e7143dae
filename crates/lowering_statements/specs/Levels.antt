-- How many depths of registers the code of a statement may take.
use Rattle.std.specs.Prelude.{ℕ, max, List, [], ◌∷◌, Option, Some, None}
use Rattle.c_typed_tree.specs.Expressions.{Expr}
use Rattle.c_typed_tree.specs.Statements.{LocalDeclaration, First, Nothing, Value, Locals, Stmt, Block, If, While, Do, For, Switch, Break, Continue, Return, Expression, Empty, Declare, Else, no_else, else_stmt, Stmts, no_stmts, more_stmts, Sections, no_sections, more_sections}
use Rattle.lowering_expressions.specs.Levels.{register_levels}

-- no form takes fewer than five
abbrev pub optional_levels : Option Expr → ℕ
optional_levels None = 5
optional_levels (Some x) = register_levels x

abbrev pub declared_levels : LocalDeclaration → ℕ
declared_levels d = optional_levels d.init

abbrev pub locals_levels : List LocalDeclaration → ℕ
locals_levels [] = 5
locals_levels (d ∷ ds) = max (declared_levels d) (locals_levels ds)

abbrev pub first_levels : First → ℕ
first_levels Nothing = 5
first_levels (Value x) = register_levels x
first_levels (Locals ds) = locals_levels ds

abbrev mutual
  pub stmt_levels : Stmt → ℕ
  stmt_levels (Block ss) = stmts_levels ss
  stmt_levels (If x s h) = max (register_levels x) (max (stmt_levels s) (else_levels h))
  stmt_levels (While x s) = max (register_levels x) (stmt_levels s)
  stmt_levels (Do s x) = max (register_levels x) (stmt_levels s)
  stmt_levels (For first condition step s) =
      max (first_levels first) (max (optional_levels condition) (max (optional_levels step) (stmt_levels s)))
  stmt_levels (Switch x ss) = max (register_levels x) (sections_levels ss)
  stmt_levels Break = 5
  stmt_levels Continue = 5
  stmt_levels (Return x) = optional_levels x
  stmt_levels (Expression x) = register_levels x
  stmt_levels Empty = 5
  stmt_levels (Declare d) = declared_levels d

  pub else_levels : Else → ℕ
  else_levels no_else = 5
  else_levels (else_stmt s) = stmt_levels s

  pub stmts_levels : Stmts → ℕ
  stmts_levels no_stmts = 5
  stmts_levels (more_stmts s ss) = max (stmt_levels s) (stmts_levels ss)

  pub sections_levels : Sections → ℕ
  sections_levels no_sections = 5
  sections_levels (more_sections label ss sections) = max (stmts_levels ss) (sections_levels sections)
