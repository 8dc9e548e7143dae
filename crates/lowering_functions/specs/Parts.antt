-- How many parts a statement has, by which its code is bounded: its statements, expressions, declarations and labels.
use Rattle.std.specs.Prelude.{ℕ, ◌+◌, List, [], ◌∷◌}
use Rattle.c_typed_tree.specs.Counts.{expr_nodes, optional_nodes, declared_nodes}
use Rattle.c_typed_tree.specs.Statements.{LocalDeclaration, First, Nothing, Value, Locals, Stmt, Block, If, While, Do, For, Switch, Break, Continue, Return, Expression, Empty, Declare, Else, no_else, else_stmt, Stmts, no_stmts, more_stmts, Sections, no_sections, more_sections}

abbrev pub locals_parts : List LocalDeclaration → ℕ
locals_parts [] = 0
locals_parts (d ∷ ds) = 1 + declared_nodes d + locals_parts ds

abbrev pub first_parts : First → ℕ
first_parts Nothing = 0
first_parts (Value x) = expr_nodes x
first_parts (Locals ds) = locals_parts ds

abbrev mutual
  pub stmt_parts : Stmt → ℕ
  stmt_parts (Block ss) = 1 + stmts_parts ss
  stmt_parts (If x s h) = 1 + expr_nodes x + stmt_parts s + else_parts h
  stmt_parts (While x s) = 1 + expr_nodes x + stmt_parts s
  stmt_parts (Do s x) = 1 + expr_nodes x + stmt_parts s
  stmt_parts (For first condition step s) =
      1 + first_parts first + optional_nodes condition + optional_nodes step + stmt_parts s
  stmt_parts (Switch x sections) = 1 + expr_nodes x + sections_parts sections
  stmt_parts Break = 1
  stmt_parts Continue = 1
  stmt_parts (Return x) = 1 + optional_nodes x
  stmt_parts (Expression x) = 1 + expr_nodes x
  stmt_parts Empty = 1
  stmt_parts (Declare d) = 1 + declared_nodes d

  pub else_parts : Else → ℕ
  else_parts no_else = 0
  else_parts (else_stmt s) = stmt_parts s

  pub stmts_parts : Stmts → ℕ
  stmts_parts no_stmts = 0
  stmts_parts (more_stmts s ss) = stmt_parts s + stmts_parts ss

  -- a label counts 1
  pub sections_parts : Sections → ℕ
  sections_parts no_sections = 0
  sections_parts (more_sections label ss sections) = 1 + stmts_parts ss + sections_parts sections
