-- Typed statements as plain data.
use Rattle.std.specs.Prelude.{ℕ, List, Option}
use Rattle.c_typed_tree.specs.declared.statements.TLabel.{TLabel}
use Rattle.c_typed_tree.specs.Expressions.{Expr}

-- the declaration of a local, with its initialiser
pub record LocalDeclaration : Type 0 where
  pub number : ℕ
  pub init : Option Expr

-- the first part of a `for`
pub data First : Type 0 where
  Nothing : First
  Value : Expr → First
  Locals : List LocalDeclaration → First

mutual
  pub data Stmt : Type 0 where
    Block : Stmts → Stmt
    If : Expr → Stmt → Else → Stmt
    While : Expr → Stmt → Stmt
    Do : Stmt → Expr → Stmt
    For : First → (condition step : Option Expr) → Stmt → Stmt
    Switch : Expr → Sections → Stmt
    Break : Stmt
    Continue : Stmt
    Return : Option Expr → Stmt
    Expression : Expr → Stmt
    Empty : Stmt
    Declare : LocalDeclaration → Stmt

  pub data Else : Type 0 where
    no_else : Else
    else_stmt : Stmt → Else

  pub data Stmts : Type 0 where
    no_stmts : Stmts
    more_stmts : Stmt → Stmts → Stmts

  -- the sections of a `switch`: a label, and the statements up to the next one
  pub data Sections : Type 0 where
    no_sections : Sections
    more_sections : TLabel → Stmts → Sections → Sections
