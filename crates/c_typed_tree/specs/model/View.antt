-- The plain data of rows of trees, and one name that opens the views.
use Rattle.std.specs.Prelude.{List, [], ◌∷◌}
use denote.Hole.Carrier as Carrier
use Rattle.c_typed_tree.specs.declared.types.CType.TheBlock as tb
use Rattle.c_typed_tree.specs.declared.expressions.TExpr as e
use Rattle.c_typed_tree.specs.declared.expressions.TExpr.TheBlock as eb
use Rattle.c_typed_tree.specs.declared.statements.TStmt as s
use Rattle.c_typed_tree.specs.declared.statements.TStmt.TheBlock as sb
use Rattle.c_typed_tree.specs.Expressions.{Exprs, no_exprs, more_exprs}
use Rattle.c_typed_tree.specs.Statements.{Stmts, no_stmts, more_stmts}
use Rattle.c_typed_tree.specs.View.{type_view, expr_view, stmt_view}

abbrev pub exprs_view : List e.TExpr → Exprs
exprs_view [] = no_exprs
exprs_view (x ∷ xs) = more_exprs (expr_view x) (exprs_view xs)

abbrev pub stmts_view : List s.TStmt → Stmts
stmts_view [] = no_stmts
stmts_view (x ∷ xs) = more_stmts (stmt_view x) (stmts_view xs)

-- opens the views
unfoldable pub opens : Unit {0}
unfolding type_view expr_view stmt_view tb.hidden-the_row-CType-0 eb.hidden-the_row-TExpr-0 eb.hidden-the_row-TExpr-1 sb.hidden-the_row-TStmt-0 sb.hidden-the_row-TStmt-1 Carrier.hidden
opens = tt
