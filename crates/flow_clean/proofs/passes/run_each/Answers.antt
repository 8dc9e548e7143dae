use Rattle.std.proofs.Common.{sym, ◌∙◌}
use Rattle.std.specs.Vec.Iter.{into_iter_items}
use Rattle.flow_clean.proofs.Turns.{ready_needs, ready_more, ready_end}
use Rattle.flow_clean.proofs.passes.run_each.Goals as goal

pub run-requires : goal.run-requires
run-requires g c =
    ready_needs g.P.FunctionPass.needs g.P.FunctionPass.gives c.args.functions _ _ c.loop-f.made c.in-Some.f c.loop-f.invariant c.in-Some.ensures.steps.0

pub loop-f-preserved : goal.loop-f-preserved
loop-f-preserved g c =
    ready_more g.P.FunctionPass.needs g.P.FunctionPass.gives c.args.functions _ _ c.loop-f.made _ c.in-Some.f _ c.loop-f.invariant
    c.in-Some.ensures.steps.0 c.in_ok-run.ensures c.in_ok-push.ensures.ok

pub returns : goal.returns
returns g c =
    let left = c.loop-f.f-iterator in
    ready_end g.P.FunctionPass.needs g.P.FunctionPass.gives c.args.functions (into_iter_items left) c.loop-f.made c.loop-f.invariant
    (sym left.rest.ok.0 ∙ c.in-None.ensures.steps.0)
