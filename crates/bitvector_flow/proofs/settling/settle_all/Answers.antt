use Rattle.std.proofs.Common.{length, ◌∙◌}
use Rattle.bitvector_flow.proofs.Rounds.{fewer_missing, bound_same, flows_at_end}
use Rattle.bitvector_flow.proofs.settling.settle_all.Goals as goal

pub round-requires-clause-stops : goal.round-requires-clause-stops
round-requires-clause-stops c = bound_same _ _ _ c.loop.invariant.spare c.requires.stops

pub loop-smaller : goal.loop-smaller
loop-smaller c = fewer_missing c.loop.outs c.round.new.outs c.round.result c.loop-test.true c.round.ensures.swept.grown

pub loop-preserved : goal.loop-preserved
loop-preserved c = record {
  spare = c.round.ensures.spare ∙ c.loop.invariant.spare;
  outs_length = c.round.ensures.swept.outs_length;
  ins_length = c.round.ensures.swept.ins_length;
  outs_below = bound_same _ _ _ c.round.ensures.spare c.round.ensures.swept.outs_below;
  ins_below = bound_same _ _ _ c.round.ensures.spare c.round.ensures.swept.ins_below;
  forced = λ makes forced. c.round.ensures.forced makes (c.loop.invariant.forced makes forced);
}

pub returns : goal.returns
returns c = λ makes forced.
    flows_at_end c.args.nexts.now makes c.args.stops.now (length c.args.spare.now) (length c.loop.spare) c.args.backward c.loop.outs c.round.new.outs c.round.new.ins
    c.round.result c.loop-test.false c.loop.invariant.spare c.round.ensures.swept (c.round.ensures.forced makes (c.loop.invariant.forced makes forced))
