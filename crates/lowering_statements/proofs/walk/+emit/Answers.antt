-- The forms with a list, and the loops over lists.
use Rattle.std.proofs.Common.{◌≡◌, ◌-◌, ap, rules, arith}
use Rattle.std.proofs.lemmas.Grind.{common_steps}
use Rattle.c_typed_tree.specs.declared.statements.TStmt as s
use Rattle.c_typed_tree.specs.View.{stmt_view}
use Rattle.c_typed_tree.specs.model.View.{stmts_view, opens}
use Rattle.lowering_statements.specs.Levels.{stmt_levels, stmts_levels}
use Rattle.lowering_statements.proofs.Lists.{block_is, switch_is, stmt_at, section_at}
use Rattle.lowering_statements.proofs.walk.+emit.Goals as goal

pub stmt-stmts-requires : goal.stmt-stmts-requires
unfolding opens
stmt-stmts-requires t c =
    (first_of (search (rules, s.the_lemmas), grind (arith, s.the_lemmas)), omega (arith, ap stmt_levels (block_is _ _ _ c.in-Block.is c.as_slice-list.ensures), c.requires))

pub stmt-returns-in-Block : goal.stmt-returns-in-Block
stmt-returns-in-Block t c =
    let v = block_is _ _ _ c.in-Block.is c.as_slice-list.ensures in
    first_of (search rules, grind (arith, common_steps))

pub stmt-bodies-requires : goal.stmt-bodies-requires
unfolding opens
stmt-bodies-requires t c =
    (first_of (search (rules, s.the_lemmas), grind (arith, s.the_lemmas)), omega (arith, ap stmt_levels (switch_is _ _ _ _ c.in-Switch.is c.as_slice-list-in-Switch.ensures), c.requires))

pub stmts-stmt-requires : goal.stmts-stmt-requires
unfolding opens
stmts-stmt-requires t c =
    (first_of (search (rules, s.the_lemmas), grind (arith, s.the_lemmas)), omega (arith, stmt_at c.args.list.now (c.loop-i.i - 1) c.index-list-i.result (omega (arith, c.loop-i.invariant.0, c.loop-i-test.true)), ap (λ x. stmt_levels (stmt_view x)) c.index-list-i.is, c.requires, c.loop-i.invariant.0, c.loop-i-test.true))

pub bodies-stmts-requires : goal.bodies-stmts-requires
unfolding opens
bodies-stmts-requires t c =
    (first_of (search (rules, s.the_lemmas), grind (arith, s.the_lemmas)), omega (arith, section_at c.args.list.now (c.loop-i.i - 1) c.index-list-i.result (omega (arith, c.loop-i.invariant.0, c.loop-i-test.true)), ap (λ x. stmts_levels (stmts_view x.statements)) c.index-list-i.is, ap (λ x. stmts_levels (stmts_view x)) c.as_slice.ensures, c.requires, c.loop-i.invariant.0, c.loop-i-test.true))

pub stmt-returns-in_ok-labels-in-Switch : goal.stmt-returns-in_ok-labels-in-Switch
stmt-returns-in_ok-labels-in-Switch t c =
    let v = switch_is _ _ _ _ c.in-Switch.is c.as_slice-list-in-Switch.ensures in
    first_of (search rules, grind (arith, common_steps))

pub stmts-returns : goal.stmts-returns
stmts-returns t c =
    let all : c.loop-i.i ≡ 0 = omega (arith, c.loop-i-test.false) in
    first_of (search rules, grind (arith, common_steps))
