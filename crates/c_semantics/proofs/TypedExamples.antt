-- The small units are well typed, and those that should not be are not: computed.
use Rattle.std.proofs.Common.{IsTrue, IsFalse, refl}
use Rattle.std.specs.List.{list_all, list_any}
use denote.Hole.Carrier as Carrier
use Rattle.c_typed_tree.specs.declared.types.CType.TheBlock as tb
use Rattle.c_typed_tree.specs.declared.expressions.TExpr.TheBlock as eb
use Rattle.c_typed_tree.specs.declared.statements.TStmt.TheBlock as sb
use Rattle.c_typed_tree.specs.View.{type_view, expr_view, stmt_view}
use Rattle.c_semantics.specs.Examples.{has_typed_bodies, units, ill_typed_units}

pub well_typed : IsTrue (list_all has_typed_bodies units)
unfolding type_view expr_view stmt_view tb.hidden-the_row-CType-0 eb.hidden-the_row-TExpr-0 eb.hidden-the_row-TExpr-1 sb.hidden-the_row-TStmt-0 sb.hidden-the_row-TStmt-1 sb.hidden-the_row-TSection-2 Carrier.hidden
well_typed = refl

pub ill_typed : IsFalse (list_any has_typed_bodies ill_typed_units)
unfolding type_view expr_view stmt_view tb.hidden-the_row-CType-0 eb.hidden-the_row-TExpr-0 eb.hidden-the_row-TExpr-1 sb.hidden-the_row-TStmt-0 sb.hidden-the_row-TStmt-1 sb.hidden-the_row-TSection-2 Carrier.hidden
ill_typed = refl
