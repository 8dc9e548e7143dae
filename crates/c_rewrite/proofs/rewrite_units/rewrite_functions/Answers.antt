use Rattle.std.proofs.Common.{sym, ◌∙◌}
use Rattle.std.specs.Vec.Iter.{into_iter_items}
use Rattle.c_rewrite.proofs.Functions.{rewritten_more, rewritten_all}
use Rattle.c_rewrite.proofs.rewrite_units.rewrite_functions.Goals as goal

pub loop-f-preserved : goal.loop-f-preserved
loop-f-preserved c =
    rewritten_more c.args.list _ _ c.loop-f.made _ c.in-Some.f _ c.loop-f.invariant c.in-Some.ensures.steps.0
    c.in_ok-rewrite_function.ensures c.in_ok-push.ensures.ok

pub returns : goal.returns
returns c =
    let left = c.loop-f.f-iterator in
    rewritten_all c.args.list (into_iter_items left) c.loop-f.made c.loop-f.invariant (sym left.rest.ok.0 ∙ c.in-None.ensures.steps.0)
