-- The forms with a list, and the loops over lists.
use Rattle.std.proofs.Common.{◌-◌, ap, rules, arith}
use Rattle.std.proofs.lemmas.Grind.{common_steps}
use Rattle.c_typed_tree.specs.declared.expressions.TExpr as e
use Rattle.c_typed_tree.specs.View.{expr_view}
use Rattle.c_typed_tree.specs.model.View.{opens}
use Rattle.lowering_expressions.specs.Levels.{register_levels}
use Rattle.lowering_expressions.proofs.Depths.{call_is, comma_is, above_at, each_at, length_le}
use Rattle.lowering_expressions.proofs.walk.+emit.Goals as goal

pub exprs-overflow_cast-i : goal.exprs-overflow_cast-i
exprs-overflow_cast-i t c = omega (arith, length_le c.args.list.now, c.requires, c.loop-i.invariant.0)

pub exprs-overflow_add-depth : goal.exprs-overflow_add-depth
exprs-overflow_add-depth t c = omega (arith, length_le c.args.list.now, c.requires, c.loop-i.invariant.0)

pub exprs-expr-requires : goal.exprs-expr-requires
unfolding opens
exprs-expr-requires t c =
    (first_of (search (rules, e.the_lemmas), grind (arith, e.the_lemmas)), omega (arith, above_at c.args.list.now (c.loop-i.i - 1) c.index-list-i.result (omega (arith, c.loop-i.invariant.0, c.loop-i-test.true)), ap (λ x. register_levels (expr_view x)) c.index-list-i.is, c.requires, c.loop-i.invariant.0, c.loop-i-test.true))

pub commas-expr-requires : goal.commas-expr-requires
unfolding opens
commas-expr-requires t c =
    (first_of (search (rules, e.the_lemmas), grind (arith, e.the_lemmas)), omega (arith, each_at c.args.list.now (c.loop-i.i - 1) c.index-list-i.result (omega (arith, c.loop-i.invariant.0, c.loop-i-test.true)), ap (λ x. register_levels (expr_view x)) c.index-list-i.is, c.requires, c.loop-i.invariant.0, c.loop-i-test.true))

pub expr-call-requires-clause-arguments : goal.expr-call-requires-clause-arguments
expr-call-requires-clause-arguments t c = omega (arith, ap register_levels (call_is _ _ _ _ _ c.in-Call.is c.as_slice-list.ensures), c.requires)

pub expr-exprs-requires : goal.expr-exprs-requires
unfolding opens
expr-exprs-requires t c =
    (first_of (search (rules, e.the_lemmas), grind (arith, e.the_lemmas)), omega (arith, ap register_levels (call_is _ _ _ _ _ c.in-Call.is c.as_slice-list.ensures), c.requires))

pub expr-commas-requires : goal.expr-commas-requires
unfolding opens
expr-commas-requires t c =
    (first_of (search (rules, e.the_lemmas), grind (arith, e.the_lemmas)), omega (arith, ap register_levels (comma_is _ _ _ _ c.in-Comma.is c.as_slice-list-in-Comma.ensures), c.requires))

pub expr-returns-in_ok-call-in-Call : goal.expr-returns-in_ok-call-in-Call
expr-returns-in_ok-call-in-Call t c =
    let v = call_is _ _ _ _ _ c.in-Call.is c.as_slice-list.ensures in
    first_of (search rules, grind (arith, common_steps))

pub expr-returns-in-Comma : goal.expr-returns-in-Comma
expr-returns-in-Comma t c =
    let v = comma_is _ _ _ _ c.in-Comma.is c.as_slice-list-in-Comma.ensures in
    first_of (search rules, grind (arith, common_steps))
