use Rattle.std.proofs.Common.{None, get_or}
use Rattle.std.proofs.lemmas.List.{get_or_default}
use Rattle.binpack_blocks.specs.model.Choices.{is_free}
use Rattle.binpack_blocks.specs.model.Rows.{is_wanted}
use Rattle.binpack_blocks.specs.model.Spans.{span_end}
use Rattle.binpack_blocks.proofs.Bests.{next_weighed}
use Rattle.binpack_blocks.proofs.bins.Scan.best_of_these.Goals as goal

pub loop-r-preserved : goal.loop-r-preserved
loop-r-preserved c =
    let here = get_or c.args.registers.now c.loop-r.r-index 0 in
    next_weighed c.args.end (span_end c.args.self.now.fixed c.args.lives.now c.args.point c.args.self.now.bins.items)
    (is_free c.args.insn.now c.args.standing.now (is_wanted c.args.lives.now c.args.point) c.args.self.now.bins.items)
    c.args.registers.now c.loop-r.r-index here None c.loop-r.best c.weigh-best.result c.loop-r-test.true (get_or_default c.args.registers.now c.loop-r.r-index 0 here c.loop-r-test.true) c.weigh-best.ensures c.loop-r.invariant
