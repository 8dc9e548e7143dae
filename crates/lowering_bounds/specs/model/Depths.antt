-- How many depths of registers the code of an expression or a statement needs, from its own depth on.
use Rattle.std.specs.Prelude.{ℕ, ◌+◌, max, List, [], ◌∷◌, length, Option, Some, None}
use Rattle.c_typed_tree.specs.Expressions.{Expr, Number, Local, Global, Call, Unary, Binary, Assign, Conditional, Cast, Convert, Index, Field, Arrow, Postfix, Comma, Exprs, no_exprs, more_exprs}
use Rattle.c_typed_tree.specs.Statements.{LocalDeclaration, First, Nothing, Value, Locals, Stmt, Block, If, While, Do, For, Switch, Break, Continue, Return, Expression, Empty, Declare, Else, no_else, else_stmt, Stmts, no_stmts, more_stmts, Sections, no_sections, more_sections}

-- a leaf needs one, and each operator five at most; a right operand stands above the left one, and each argument above
-- the one before it
abbrev mutual
  pub depths : Expr → ℕ
  depths (Number ty word) = 1
  depths (Local ty k) = 1
  depths (Global ty k) = 1
  depths (Call ty callee xs) = max 1 (depths_above xs)
  depths (Unary ty op x) = max 5 (depths x)
  depths (Binary ty op x y) = max 5 (max (depths x) (1 + depths y))
  depths (Assign ty op x y) = max 5 (max (depths x) (1 + depths y))
  depths (Conditional ty x y z) = max 5 (max (depths x) (max (depths y) (depths z)))
  depths (Cast ty x) = max 5 (depths x)
  depths (Convert ty x) = max 5 (depths x)
  depths (Index ty x y) = max 5 (max (depths x) (1 + depths y))
  depths (Field ty x member) = max 5 (depths x)
  depths (Arrow ty x member) = max 5 (depths x)
  depths (Postfix ty op x) = max 5 (depths x)
  depths (Comma ty xs) = max 5 (depths_of_each xs)

  pub depths_above : Exprs → ℕ
  depths_above no_exprs = 0
  depths_above (more_exprs x xs) = max (depths x) (1 + depths_above xs)

  pub depths_of_each : Exprs → ℕ
  depths_of_each no_exprs = 0
  depths_of_each (more_exprs x xs) = max (depths x) (depths_of_each xs)

-- a value comes from the lowest depth into an object whose address stands above it
abbrev pub optional_depths : Option Expr → ℕ
optional_depths None = 0
optional_depths (Some x) = max 2 (depths x)

abbrev pub declared_depths : LocalDeclaration → ℕ
declared_depths d = optional_depths d.init

abbrev pub locals_depths : List LocalDeclaration → ℕ
locals_depths [] = 0
locals_depths (d ∷ ds) = max (declared_depths d) (locals_depths ds)

abbrev pub first_depths : First → ℕ
first_depths Nothing = 0
first_depths (Value x) = depths x
first_depths (Locals ds) = locals_depths ds

abbrev mutual
  pub stmt_depths : Stmt → ℕ
  stmt_depths (Block ss) = stmts_depths ss
  stmt_depths (If x s h) = max (depths x) (max (stmt_depths s) (else_depths h))
  stmt_depths (While x s) = max (depths x) (stmt_depths s)
  stmt_depths (Do s x) = max (depths x) (stmt_depths s)
  stmt_depths (For first condition step s) =
      max (first_depths first) (max (optional_depths condition) (max (optional_depths step) (stmt_depths s)))
  stmt_depths (Switch x ss) = max 2 (max (depths x) (sections_depths ss))
  stmt_depths Break = 0
  stmt_depths Continue = 0
  stmt_depths (Return x) = optional_depths x
  stmt_depths (Expression x) = depths x
  stmt_depths Empty = 0
  stmt_depths (Declare d) = declared_depths d

  pub else_depths : Else → ℕ
  else_depths no_else = 0
  else_depths (else_stmt s) = stmt_depths s

  pub stmts_depths : Stmts → ℕ
  stmts_depths no_stmts = 0
  stmts_depths (more_stmts s ss) = max (stmt_depths s) (stmts_depths ss)

  pub sections_depths : Sections → ℕ
  sections_depths no_sections = 0
  sections_depths (more_sections label ss rest) = max (stmts_depths ss) (sections_depths rest)

-- how many locals a statement declares
abbrev pub first_locals : First → ℕ
first_locals Nothing = 0
first_locals (Value x) = 0
first_locals (Locals ds) = length ds

abbrev mutual
  pub stmt_locals : Stmt → ℕ
  stmt_locals (Block ss) = stmts_locals ss
  stmt_locals (If x s h) = stmt_locals s + else_locals h
  stmt_locals (While x s) = stmt_locals s
  stmt_locals (Do s x) = stmt_locals s
  stmt_locals (For first condition step s) = first_locals first + stmt_locals s
  stmt_locals (Switch x ss) = sections_locals ss
  stmt_locals Break = 0
  stmt_locals Continue = 0
  stmt_locals (Return x) = 0
  stmt_locals (Expression x) = 0
  stmt_locals Empty = 0
  stmt_locals (Declare d) = 1

  pub else_locals : Else → ℕ
  else_locals no_else = 0
  else_locals (else_stmt s) = stmt_locals s

  pub stmts_locals : Stmts → ℕ
  stmts_locals no_stmts = 0
  stmts_locals (more_stmts s ss) = stmt_locals s + stmts_locals ss

  pub sections_locals : Sections → ℕ
  sections_locals no_sections = 0
  sections_locals (more_sections label ss rest) = stmts_locals ss + sections_locals rest
