use Rattle.std.proofs.Common.{◌≡◌, refl, subst, length, arith, ◌∙◌}
use Rattle.bitvector_flow.specs.model.Rounds.{IsSwept}
use Rattle.bitvector_flow.proofs.Rounds.{sweep_begins, sweep_next, forced_next, bound_same}
use Rattle.bitvector_flow.proofs.settling.round.Goals as goal

pub loop-i-init : goal.loop-i-init
loop-i-init c = record {
  spare = refl;
  swept = sweep_begins c.args.nexts.now c.args.stops.now (length c.args.spare.now) c.args.backward c.args.outs.now c.args.ins.now
      c.requires.outs_length c.requires.ins_length c.requires.outs c.requires.ins;
  forced = λ makes forced. forced;
}

pub settle-changed-requires-clause-outs : goal.settle-changed-requires-clause-outs
settle-changed-requires-clause-outs c = bound_same _ _ _ c.loop-i.invariant.spare c.loop-i.invariant.swept.outs_below

pub settle-changed-requires-clause-ins : goal.settle-changed-requires-clause-ins
settle-changed-requires-clause-ins c = bound_same _ _ _ c.loop-i.invariant.spare c.loop-i.invariant.swept.ins_below

pub loop-i-preserved : goal.loop-i-preserved
loop-i-preserved c = record {
  spare = c.settle-changed.ensures.spare ∙ c.loop-i.invariant.spare;
  swept = sweep_next c.args.nexts.now c.args.stops.now (length c.args.spare.now) (length c.loop-i.spare) c.turn_of-block.result c.loop-i.outs c.loop-i.ins
      c.settle-changed.new.outs c.settle-changed.new.ins c.settle-changed.result c.as_slice.result.now c.index-nexts-block.result c.index-stops-block.result
      c.turn_of-block.ensures.inside c.as_slice.ensures c.index-nexts-block.is c.index-stops-block.is c.requires.as_many c.loop-i.invariant.spare c.settle-changed.ensures.step
      c.args.backward c.args.outs.now c.loop-i.i c.loop-i.grew c.either-grew.result c.loop-i.invariant.swept (omega arith) c.turn_of-block.ensures.block c.either-grew.ensures;
  forced = λ makes forced. forced_next c.args.nexts.now c.args.stops.now (length c.args.spare.now) (length c.loop-i.spare) c.turn_of-block.result c.loop-i.outs c.loop-i.ins
      c.settle-changed.new.outs c.settle-changed.new.ins c.settle-changed.result c.as_slice.result.now c.index-nexts-block.result c.index-stops-block.result
      c.turn_of-block.ensures.inside c.as_slice.ensures c.index-nexts-block.is c.index-stops-block.is c.requires.as_many c.loop-i.invariant.spare c.settle-changed.ensures.step
      makes (c.loop-i.invariant.forced makes forced);
}

pub returns-clause-swept : goal.returns-clause-swept
returns-clause-swept c =
    subst (λ n. IsSwept c.args.nexts.now c.args.stops.now (length c.args.spare.now) c.args.backward c.args.outs.now c.loop-i.outs c.loop-i.ins n c.loop-i.grew)
    (let last : c.loop-i.i ≡ length c.args.nexts.now = omega arith in last) c.loop-i.invariant.swept
