-- Typed expressions as plain data.
use Rattle.std.specs.Prelude.{ℕ}
use Rattle.c_tree.specs.declared.expressions.UnaryOp.{UnaryOp}
use Rattle.c_tree.specs.declared.expressions.BinaryOp.{BinaryOp}
use Rattle.c_tree.specs.declared.expressions.AssignOp.{AssignOp}
use Rattle.c_tree.specs.declared.expressions.StepOp.{StepOp}
use Rattle.c_typed_tree.specs.declared.expressions.Callee.{Callee}
use Rattle.c_typed_tree.specs.Types.{PlainType}

mutual
  pub data Expr : Type 0 where
    Number : PlainType → (value : ℕ) → Expr
    Local : PlainType → (number : ℕ) → Expr
    Global : PlainType → (number : ℕ) → Expr
    Call : PlainType → Callee → Exprs → Expr
    Unary : PlainType → UnaryOp → Expr → Expr
    Binary : PlainType → BinaryOp → Expr → Expr → Expr
    Assign : PlainType → AssignOp → Expr → Expr → Expr
    Conditional : PlainType → Expr → Expr → Expr → Expr
    Cast : PlainType → Expr → Expr
    Convert : PlainType → Expr → Expr
    Index : PlainType → Expr → Expr → Expr
    Field : PlainType → Expr → (member : ℕ) → Expr
    Arrow : PlainType → Expr → (member : ℕ) → Expr
    Postfix : PlainType → StepOp → Expr → Expr
    Comma : PlainType → Exprs → Expr

  pub data Exprs : Type 0 where
    no_exprs : Exprs
    more_exprs : Expr → Exprs → Exprs

-- the type of an expression
abbrev pub type_of : Expr → PlainType
type_of (Number ty value) = ty
type_of (Local ty number) = ty
type_of (Global ty number) = ty
type_of (Call ty callee es) = ty
type_of (Unary ty op e) = ty
type_of (Binary ty op e f) = ty
type_of (Assign ty op e f) = ty
type_of (Conditional ty e f g) = ty
type_of (Cast ty e) = ty
type_of (Convert ty e) = ty
type_of (Index ty e f) = ty
type_of (Field ty e member) = ty
type_of (Arrow ty e member) = ty
type_of (Postfix ty op e) = ty
type_of (Comma ty es) = ty
