use Rattle.std.proofs.Common.{◌∙◌}
use Rattle.std.proofs.lemmas.List.{length-set}
use Rattle.binpack_scan.proofs.Crossings.{shift_step, shift_end, move_made}
use Rattle.binpack_scan.proofs.crossing.put_shifts.Goals as goal

pub loop-m-preserved : goal.loop-m-preserved
loop-m-preserved c = record {
  code = shift_step c.args.made.now c.loop-m.m-index _ c.loop-m.holders c.loop-m.code c.push.new.self _ (move_made c.args.made.now c.loop-m.m-index _ c.loop-m-test.true) c.in_ok-push.ensures.ok c.loop-m.invariant.code;
  many = length-set c.loop-m.holders _ _ ∙ c.loop-m.invariant.many;
}

pub returns : goal.returns
returns c = shift_end c.args.made.now c.loop-m.m-index c.loop-m.holders c.loop-m.code _ c.loop-m-test.false c.loop-m.invariant.code
