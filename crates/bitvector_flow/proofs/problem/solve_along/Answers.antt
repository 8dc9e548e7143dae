use Rattle.std.proofs.Common.{refl, sym, ap, ◌∙◌, subst, length}
use Rattle.std.proofs.lemmas.Result.{IfOk-weaker}
use Rattle.bitvector_flow.specs.model.Rounds.{AreBelow}
use Rattle.bitvector_flow.proofs.Tested.{below_of, least_by_tests}
use Rattle.bitvector_flow.proofs.problem.solve_along.Goals as goal

pub solve_sets-requires-clause-as_many_makes : goal.solve_sets-requires-clause-as_many_makes
solve_sets-requires-clause-as_many_makes g c = c.in_ok-makes.ensures.bounded.as_many

pub solve_sets-requires-clause-as_many_stops : goal.solve_sets-requires-clause-as_many_stops
solve_sets-requires-clause-as_many_stops g c = ap length c.as_slice.ensures.value ∙ c.in_ok-stops.ensures.bounded.as_many

pub solve_sets-requires-clause-makes : goal.solve_sets-requires-clause-makes
solve_sets-requires-clause-makes g c = below_of (length c.args.nexts.now) _ c.size.result _ c.in_ok-makes.ensures.bounded c.size.ensures

pub solve_sets-requires-clause-stops : goal.solve_sets-requires-clause-stops
solve_sets-requires-clause-stops g c =
    subst (AreBelow c.size.result) (sym c.as_slice.ensures.value) (below_of (length c.args.nexts.now) _ c.size.result _ c.in_ok-stops.ensures.bounded c.size.ensures)

pub returns : goal.returns
returns g c =
    IfOk-weaker c.solve_sets.result _ _
    (λ s flows. least_by_tests (g.P.Problem.made c.args.problem.now) (g.P.Problem.stopped c.args.problem.now) c.args.nexts.now (g.P.Problem.bound c.args.problem.now)
    c.size.result (length c.args.nexts.now) c.in_ok-makes.makes.items c.in_ok-stops.stops.items c.as_slice.result.now s.outs.items s.ins.items
    c.size.ensures refl c.as_slice.ensures.value c.in_ok-makes.ensures c.in_ok-stops.ensures flows)
    c.solve_sets.ensures
