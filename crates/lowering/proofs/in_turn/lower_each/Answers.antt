-- One more of each.
use Rattle.std.proofs.Common.{sym, ◌∙◌}
use Rattle.std.specs.Vec.Iter.{into_iter_items}
use Rattle.lowering.proofs.Turns.{turn_can, turn_more, turn_last}
use Rattle.lowering.proofs.in_turn.lower_each.Goals as goal

pub one-made-requires : goal.one-made-requires
one-made-requires c =
    turn_can c.args.structs.now c.args.list _ _ c.loop-f.functions c.in-Some.f c.loop-f.invariant c.in-Some.ensures.steps.0

pub loop-f-preserved : goal.loop-f-preserved
loop-f-preserved c =
    turn_more c.args.structs.now c.args.list _ _ c.loop-f.functions _ c.in-Some.f _ c.loop-f.invariant
    c.in-Some.ensures.steps.0 c.in_ok-made.ensures c.in_ok-push.ensures.ok

pub returns : goal.returns
returns c =
    let left = c.loop-f.f-iterator in
    turn_last c.args.structs.now c.args.list (into_iter_items left) c.loop-f.functions c.loop-f.invariant
    (sym left.rest.ok.0 ∙ c.in-None.ensures.steps.0)
