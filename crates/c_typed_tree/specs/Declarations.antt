-- How often a statement declares the local with a number (C99 6.7): the declarations that stand in it, whether a run
-- comes to them or not.
use Rattle.std.specs.Prelude.{ℕ, ◌+◌, ◌<◌, ◌==◌, ◌&&◌, cond, nat_le, nat_lt, sum_by}
use Rattle.c_typed_tree.specs.Statements.{LocalDeclaration, First, Nothing, Value, Locals, Stmt, Block, If, While, Do, For, Switch, Break, Continue, Return, Expression, Empty, Declare, Else, no_else, else_stmt, Stmts, no_stmts, more_stmts, Sections, no_sections, more_sections}

abbrev pub declarations_here : (number : ℕ) → LocalDeclaration → ℕ
declarations_here number d = cond (d.number == number) 1 0

abbrev pub first_declarations : (number : ℕ) → First → ℕ
first_declarations number Nothing = 0
first_declarations number (Value e) = 0
first_declarations number (Locals ds) = sum_by (declarations_here number) ds

abbrev mutual
  pub declarations : (number : ℕ) → Stmt → ℕ
  declarations number (Block ss) = stmts_declarations number ss
  declarations number (If e s h) = declarations number s + else_declarations number h
  declarations number (While e s) = declarations number s
  declarations number (Do s e) = declarations number s
  declarations number (For first condition step s) = first_declarations number first + declarations number s
  declarations number (Switch e ss) = sections_declarations number ss
  declarations number Break = 0
  declarations number Continue = 0
  declarations number (Return e) = 0
  declarations number (Expression e) = 0
  declarations number Empty = 0
  declarations number (Declare d) = declarations_here number d

  pub else_declarations : (number : ℕ) → Else → ℕ
  else_declarations number no_else = 0
  else_declarations number (else_stmt s) = declarations number s

  pub stmts_declarations : (number : ℕ) → Stmts → ℕ
  stmts_declarations number no_stmts = 0
  stmts_declarations number (more_stmts s ss) = declarations number s + stmts_declarations number ss

  pub sections_declarations : (number : ℕ) → Sections → ℕ
  sections_declarations number no_sections = 0
  sections_declarations number (more_sections label ss rest) =
      stmts_declarations number ss + sections_declarations number rest

-- a body declares no parameter, and each other local of its function once
abbrev pub due_declarations : (params locals number : ℕ) → ℕ
due_declarations params locals number = cond (nat_le params number && nat_lt number locals) 1 0
