-- The views of trees with lists: what stands in the list is seen one by one.
use Rattle.std.proofs.Common.{◌≡◌, List, [], ◌∷◌, Option, Some, None, refl, sym, ap, ◌∙◌}
use mathlib.Core.Former.{this, list, arity}
use Rattle.c_typed_tree.specs.declared.types.CType.{CType}
use Rattle.c_typed_tree.specs.declared.expressions.Callee.{Callee}
use Rattle.c_typed_tree.specs.declared.expressions.TExpr as e
use Rattle.c_typed_tree.specs.declared.expressions.TExpr.TheBlock as eb
use Rattle.c_typed_tree.specs.declared.statements.TStmt as s
use Rattle.c_typed_tree.specs.declared.statements.TStmt.TheBlock as sb
use Rattle.c_typed_tree.specs.declared.statements.TSection.{TSection}
use Rattle.c_typed_tree.specs.Expressions as p
use Rattle.c_typed_tree.specs.Expressions.{Expr, Exprs, no_exprs, more_exprs}
use Rattle.c_typed_tree.specs.Statements as q
use Rattle.c_typed_tree.specs.Statements.{Stmt, Stmts, no_stmts, more_stmts, Sections, no_sections, more_sections}
use Rattle.c_typed_tree.specs.View.{type_view, expr_view, stmt_view}
use Rattle.c_typed_tree.specs.model.View.{exprs_view, stmts_view, opens}
use Rattle.c_typed_tree.specs.model.Lists.{sections_view, else_view}

-- ---- expressions

operands_of : Expr → Exprs
operands_of (p.Call ty callee xs) = xs
operands_of (p.Comma ty xs) = xs
operands_of _ = no_exprs

call_row : (ty : CType) (c : Callee) (s : List (Unit {0})) (xs : e.Row_of-TExpr (arity (list (this {0})) s)) → operands_of (expr_view (e.Call' ty c s xs)) ≡ exprs_view (e.items-the_row-TExpr _ xs)
unfolding expr_view operands_of
call_row ty c [] e.end_of-TExpr = refl
call_row ty c (u ∷ s) (e.more_of-TExpr x xs) = ap (more_exprs (expr_view x)) (call_row ty c s xs)

comma_row : (ty : CType) (s : List (Unit {0})) (xs : e.Row_of-TExpr (arity (list (this {0})) s)) → operands_of (expr_view (e.Comma' ty s xs)) ≡ exprs_view (e.items-the_row-TExpr _ xs)
unfolding expr_view operands_of
comma_row ty [] e.end_of-TExpr = refl
comma_row ty (u ∷ s) (e.more_of-TExpr x xs) = ap (more_exprs (expr_view x)) (comma_row ty s xs)

pub view_call : (ty : CType) (c : Callee) (xs : List e.TExpr) → expr_view (e.Call ty c xs) ≡ p.Call (type_view ty) c (exprs_view xs)
unfolding opens operands_of
view_call ty c xs = ap (p.Call (type_view ty) c) (call_row ty c _ (eb.hidden-the_row-TExpr-0 xs) ∙ ap exprs_view (eb.items_hidden-the_row-TExpr-0 xs))

pub view_comma : (ty : CType) (xs : List e.TExpr) → expr_view (e.Comma ty xs) ≡ p.Comma (type_view ty) (exprs_view xs)
unfolding opens operands_of
view_comma ty xs = ap (p.Comma (type_view ty)) (comma_row ty _ (eb.hidden-the_row-TExpr-0 xs) ∙ ap exprs_view (eb.items_hidden-the_row-TExpr-0 xs))

-- ---- statements

statements_of : Stmt → Stmts
statements_of (q.Block xs) = xs
statements_of _ = no_stmts

sections_of : Stmt → Sections
sections_of (q.Switch x xs) = xs
sections_of _ = no_sections

block_row : (n : List (Unit {0})) (xs : sb.Row_of-TStmt (arity (list (this {0})) n)) → statements_of (stmt_view (s.Block' n xs)) ≡ stmts_view (sb.items-the_row-TStmt _ xs)
unfolding stmt_view statements_of
block_row [] sb.end_of-TStmt = refl
block_row (u ∷ n) (sb.more_of-TStmt x xs) = ap (more_stmts (stmt_view x)) (block_row n xs)

switch_row : (x : e.TExpr) (n : List (Unit {0})) (xs : sb.Row_of-TSection (arity (list (this {0})) n)) → sections_of (stmt_view (s.Switch' x n xs)) ≡ sections_view (sb.items-the_row-TSection _ xs)
unfolding stmt_view statements_of sections_of
switch_row x [] sb.end_of-TSection = refl
switch_row x (u ∷ n) (sb.more_of-TSection label inner statements rest) =
    ap (λ ns. more_sections label ns (sections_of (stmt_view (s.Switch' x n rest)))) (block_row inner statements ∙ ap stmts_view (sym (sb.items_shown-the_row-TStmt-0 inner statements)))
    ∙ ap (more_sections label (stmts_view (sb.shown-the_row-TStmt-0 inner statements))) (switch_row x n rest)

pub view_block : (xs : List s.TStmt) → stmt_view (s.Block xs) ≡ q.Block (stmts_view xs)
unfolding opens statements_of
view_block xs = ap q.Block (block_row _ (sb.hidden-the_row-TStmt-0 xs) ∙ ap stmts_view (sb.items_hidden-the_row-TStmt-0 xs))

pub view_switch : (x : e.TExpr) (xs : List TSection) → stmt_view (s.Switch x xs) ≡ q.Switch (expr_view x) (sections_view xs)
unfolding opens sections_of sb.hidden-the_row-TSection-2
view_switch x xs = ap (q.Switch (expr_view x)) (switch_row x _ (sb.hidden-the_row-TSection-2 xs) ∙ ap sections_view (sb.items_hidden-the_row-TSection-2 xs))

pub view_if : (x : e.TExpr) (y : s.TStmt) (z : Option s.TStmt) → stmt_view (s.If x y z) ≡ q.If (expr_view x) (stmt_view y) (else_view z)
unfolding opens
view_if x y None = refl
view_if x y (Some z) = refl
