use Rattle.binpack_blocks.specs.model.Choices.{is_leavable}
use Rattle.binpack_blocks.specs.model.Spans.{next_reference}
use Rattle.binpack_blocks.proofs.Farthest.{one_below}
use Rattle.binpack_blocks.proofs.bins.Scan.farthest.Goals as goal

pub loop-r-preserved : goal.loop-r-preserved
loop-r-preserved c = record {
  leaves = c.consider-best.ensures.leaves;
  farthest = λ rise. one_below (next_reference c.args.lives.now c.args.point) (is_leavable c.args.insn.now c.args.standing.now c.args.self.now.bins.items) c.args.self.now.bins.items
      c.loop-r.r c.loop-r.best c.consider-best.result (c.consider-best.ensures.farther rise) (c.loop-r.invariant.farthest rise);
}
