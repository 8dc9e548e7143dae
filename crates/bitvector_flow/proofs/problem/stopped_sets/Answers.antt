use Rattle.std.proofs.Common.{rules, ◌≡◌, ◌++◌, [], ◌∷◌, ◌+◌, sym, subst, arith}
use Rattle.bitvector_flow.specs.model.Tested.{AreTested}
use Rattle.bitvector_flow.proofs.Tested.{tested_none, tested_push}
use Rattle.bitvector_flow.proofs.problem.stopped_sets.Goals as goal

pub loop-block-init : goal.loop-block-init
loop-block-init g c = tested_none (g.P.Problem.bound c.args.problem.now) (g.P.Problem.stopped c.args.problem.now) c.new-sets.result.items (search rules)

pub loop-block-preserved : goal.loop-block-preserved
loop-block-preserved g c =
    let pushed : c.push.new.self.items ≡ c.loop-block.sets.items ++ c.in_ok-stopped_set.field-0 ∷ [] = search rules in
    subst (AreTested (c.loop-block.block + 1) (g.P.Problem.bound c.args.problem.now) (g.P.Problem.stopped c.args.problem.now)) (sym pushed)
    (tested_push c.loop-block.block (g.P.Problem.bound c.args.problem.now) (g.P.Problem.stopped c.args.problem.now) c.loop-block.sets.items c.in_ok-stopped_set.field-0
    c.loop-block.invariant c.in_ok-stopped_set.ensures.bound c.in_ok-stopped_set.ensures.members)

pub returns : goal.returns
returns g c =
    subst (λ n. AreTested n (g.P.Problem.bound c.args.problem.now) (g.P.Problem.stopped c.args.problem.now) c.loop-block.sets.items)
    (let end : c.loop-block.block ≡ c.args.count = omega arith in end) c.loop-block.invariant
