-- The plain data of the typed trees.
use Rattle.std.specs.Prelude.{option_map, map}
use Rattle.c_typed_tree.specs.declared.types.CType as t
use Rattle.c_typed_tree.specs.declared.expressions.TExpr as e
use Rattle.c_typed_tree.specs.declared.statements.TStmt as s
use Rattle.c_typed_tree.specs.declared.statements.TStmt.TheBlock as sb
use Rattle.c_typed_tree.specs.declared.statements.TLocal.{TLocal}
use Rattle.c_typed_tree.specs.declared.statements.TFirst.{TFirst}
use Rattle.c_typed_tree.specs.declared.statements.TFirst.TheVariants as d
use Rattle.c_typed_tree.specs.Types.{PlainType}
use Rattle.c_typed_tree.specs.Types as o
use Rattle.c_typed_tree.specs.Expressions.{Expr, Exprs, no_exprs, more_exprs}
use Rattle.c_typed_tree.specs.Expressions as p
use Rattle.c_typed_tree.specs.Statements.{LocalDeclaration, First, Stmt, Else, no_else, else_stmt, Stmts, no_stmts, more_stmts, Sections, no_sections, more_sections}
use Rattle.c_typed_tree.specs.Statements as q

-- ---- types

unfoldable pub type_view : t.CType → PlainType
type_view t.Void = o.Void
type_view (t.Int bytes signed) = o.Int bytes signed
type_view (t.Pointer' _ (t.more_of-CType x t.end_of-CType)) = o.Pointer (type_view x)
type_view (t.Array' _ (t.more_of-CType x t.end_of-CType) length) = o.Array (type_view x) length
type_view (t.Struct number) = o.Struct number

-- ---- expressions

unfoldable mutual
  pub expr_view : e.TExpr → Expr
  expr_view (e.Number ty value) = p.Number (type_view ty) value
  expr_view (e.Local ty number) = p.Local (type_view ty) number
  expr_view (e.Global ty number) = p.Global (type_view ty) number
  expr_view (e.Call' ty callee _ xs) = p.Call (type_view ty) callee (expr_row xs)
  expr_view (e.Unary' ty op _ (e.more_of-TExpr x e.end_of-TExpr)) = p.Unary (type_view ty) op (expr_view x)
  expr_view (e.Binary' ty op _ (e.more_of-TExpr x e.end_of-TExpr) _ (e.more_of-TExpr y e.end_of-TExpr)) =
      p.Binary (type_view ty) op (expr_view x) (expr_view y)
  expr_view (e.Assign' ty op _ (e.more_of-TExpr x e.end_of-TExpr) _ (e.more_of-TExpr y e.end_of-TExpr)) =
      p.Assign (type_view ty) op (expr_view x) (expr_view y)
  expr_view
      (e.Conditional' ty _ (e.more_of-TExpr x e.end_of-TExpr) _ (e.more_of-TExpr y e.end_of-TExpr) _
      (e.more_of-TExpr z e.end_of-TExpr)) = p.Conditional (type_view ty) (expr_view x) (expr_view y) (expr_view z)
  expr_view (e.Cast' ty _ (e.more_of-TExpr x e.end_of-TExpr)) = p.Cast (type_view ty) (expr_view x)
  expr_view (e.Convert' ty _ (e.more_of-TExpr x e.end_of-TExpr)) = p.Convert (type_view ty) (expr_view x)
  expr_view (e.Index' ty _ (e.more_of-TExpr x e.end_of-TExpr) _ (e.more_of-TExpr y e.end_of-TExpr)) =
      p.Index (type_view ty) (expr_view x) (expr_view y)
  expr_view (e.Field' ty _ (e.more_of-TExpr x e.end_of-TExpr) member) = p.Field (type_view ty) (expr_view x) member
  expr_view (e.Arrow' ty _ (e.more_of-TExpr x e.end_of-TExpr) member) = p.Arrow (type_view ty) (expr_view x) member
  expr_view (e.Postfix' ty op _ (e.more_of-TExpr x e.end_of-TExpr)) = p.Postfix (type_view ty) op (expr_view x)
  expr_view (e.Comma' ty _ xs) = p.Comma (type_view ty) (expr_row xs)

  expr_row : {m : _} → e.Row_of-TExpr m → Exprs
  expr_row e.end_of-TExpr = no_exprs
  expr_row (e.more_of-TExpr x xs) = more_exprs (expr_view x) (expr_row xs)

-- ---- statements

abbrev pub local_view : TLocal → LocalDeclaration
local_view l = record { number = l.number; init = option_map expr_view l.init }

abbrev pub first_view : TFirst → First
first_view d.Nothing = q.Nothing
first_view (d.Value x) = q.Value (expr_view x)
first_view (d.Locals ls) = q.Locals (map local_view ls)

unfoldable mutual
  pub stmt_view : s.TStmt → Stmt
  stmt_view (s.Block' _ xs) = q.Block (stmt_row xs)
  stmt_view (s.If' c _ (s.more_of-TStmt x s.end_of-TStmt) h) = q.If (expr_view c) (stmt_view x) (else_view h)
  stmt_view (s.While' c _ (s.more_of-TStmt x s.end_of-TStmt)) = q.While (expr_view c) (stmt_view x)
  stmt_view (s.Do' _ (s.more_of-TStmt x s.end_of-TStmt) c) = q.Do (stmt_view x) (expr_view c)
  stmt_view (s.For' first c step _ (s.more_of-TStmt x s.end_of-TStmt)) =
      q.For (first_view first) (option_map expr_view c) (option_map expr_view step) (stmt_view x)
  stmt_view (s.Switch' c _ xs) = q.Switch (expr_view c) (section_row xs)
  stmt_view s.Break = q.Break
  stmt_view s.Continue = q.Continue
  stmt_view (s.Return c) = q.Return (option_map expr_view c)
  stmt_view (s.Expression c) = q.Expression (expr_view c)
  stmt_view s.Empty = q.Empty
  stmt_view (s.Local l) = q.Declare (local_view l)

  stmt_row : {m : _} → s.Row_of-TStmt m → Stmts
  stmt_row s.end_of-TStmt = no_stmts
  stmt_row (s.more_of-TStmt x xs) = more_stmts (stmt_view x) (stmt_row xs)

  else_view : s.Held-TStmt-If-2 → Else
  else_view s.None' = no_else
  else_view (s.Some' _ (s.more_of-TStmt x s.end_of-TStmt)) = else_stmt (stmt_view x)

  section_row : {m : _} → sb.Row_of-TSection m → Sections
  section_row sb.end_of-TSection = no_sections
  section_row (sb.more_of-TSection label _ xs rest) = more_sections label (stmt_row xs) (section_row rest)
