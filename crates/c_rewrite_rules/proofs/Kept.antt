-- What the rules leave of calls and commas.
use Rattle.std.proofs.Common.{◌≡◌, ◌<◌, true, false, Some, List, length, ap, sym, ◌∙◌, arith}
use Rattle.std.specs.Prelude.{slice_get}
use Rattle.c_typed_tree.specs.declared.types.CType.{CType}
use Rattle.c_typed_tree.specs.declared.expressions.Callee.{Callee}
use Rattle.c_typed_tree.specs.declared.expressions.TExpr as e
use Rattle.c_typed_tree.specs.declared.units.Local.{Local}
use Rattle.c_typed_tree.specs.View.{expr_view}
use Rattle.c_typed_tree.proofs.Views.{view_call, view_comma}
use Rattle.c_typed_tree.specs.Types.{PlainType}
use Rattle.c_typed_tree.specs.Expressions.{Expr, Convert}
use Rattle.c_semantics.proofs.Facts.{no_true}
use Rattle.c_rewrite_rules.specs.Nodes.{children_of}
use Rattle.c_rewrite_rules.specs.Rules.{is_left_out, first_operand, simplified, pruned}

pub call_pruned : (ty : CType) (callee : Callee) (xs : List e.TExpr) → expr_view (e.Call ty callee xs) ≡ pruned (expr_view (e.Call ty callee xs))
call_pruned ty callee xs = view_call ty callee xs ∙ sym (ap pruned (view_call ty callee xs))

pub comma_pruned : (ty : CType) (xs : List e.TExpr) → expr_view (e.Comma ty xs) ≡ pruned (expr_view (e.Comma ty xs))
comma_pruned ty xs = view_comma ty xs ∙ sym (ap pruned (view_comma ty xs))

pub call_simplified : (ls : List Local) (ty : CType) (callee : Callee) (xs : List e.TExpr) → expr_view (e.Call ty callee xs) ≡ simplified ls (expr_view (e.Call ty callee xs))
call_simplified ls ty callee xs = view_call ty callee xs ∙ sym (ap (simplified ls) (view_call ty callee xs))

pub comma_simplified : (ls : List Local) (ty : CType) (xs : List e.TExpr) → expr_view (e.Comma ty xs) ≡ simplified ls (expr_view (e.Comma ty xs))
comma_simplified ls ty xs = view_comma ty xs ∙ sym (ap (simplified ls) (view_comma ty xs))

pub call_not_left_out : (to : PlainType) (ty : CType) (callee : Callee) (xs : List e.TExpr) → is_left_out to (expr_view (e.Call ty callee xs)) ≡ false
call_not_left_out to ty callee xs = ap (is_left_out to) (view_call ty callee xs)

pub comma_not_left_out : (to : PlainType) (ty : CType) (xs : List e.TExpr) → is_left_out to (expr_view (e.Comma ty xs)) ≡ false
comma_not_left_out to ty xs = ap (is_left_out to) (view_comma ty xs)

pub left_out_child : (to : PlainType) (x y : Expr) → is_left_out to x ≡ true → slice_get (children_of x) 0 ≡ Some y → y ≡ first_operand x
left_out_child to (Convert ty x) y h is = cc
left_out_child to x y h is = no_true h

pub left_out_counts : (to : PlainType) (x : Expr) → is_left_out to x ≡ true → 0 < length (children_of x)
left_out_counts to (Convert ty x) h = omega arith
left_out_counts to x h = no_true h

pub ruleset left_out_steps = (left_out_child, left_out_counts)

pub ruleset kept_steps = (call_pruned, comma_pruned, call_simplified, comma_simplified, call_not_left_out, comma_not_left_out)
