use Rattle.std.proofs.Common.{sym, ◌∙◌}
use Rattle.bitvector_flow.proofs.Tested.{if_true, if_false, least_shown}
use Rattle.bitvector_flow.proofs.problem.solve.Goals as goal

pub returns-then-backward : goal.returns-then-backward
returns-then-backward g c =
    if_true (g.P.Problem.goes_back c.args.problem.now) _ _ (sym c.backward.ensures ∙ c.if-backward.true)
    (least_shown (g.P.Problem.made c.args.problem.now) (g.P.Problem.stopped c.args.problem.now) c.args.graph.now.succ c.as_slice.result.now (g.P.Problem.bound c.args.problem.now)
    c.in_ok-outs.field-0.outs.items c.in_ok-outs.field-0.ins.items c.from_vec.result c.from_vec-then-backward.result c.as_slice.ensures c.from_vec.ensures c.from_vec-then-backward.ensures c.in_ok-outs.ensures)

pub returns : goal.returns
returns g c =
    if_false (g.P.Problem.goes_back c.args.problem.now) _ _ (sym c.backward.ensures ∙ c.if-backward.false)
    (least_shown (g.P.Problem.made c.args.problem.now) (g.P.Problem.stopped c.args.problem.now) c.args.graph.now.pred c.as_slice-2.result.now (g.P.Problem.bound c.args.problem.now)
    c.in_ok-outs-2.field-0.outs.items c.in_ok-outs-2.field-0.ins.items c.from_vec-3.result c.from_vec-2.result c.as_slice-2.ensures c.from_vec-3.ensures c.from_vec-2.ensures c.in_ok-outs-2.ensures)
