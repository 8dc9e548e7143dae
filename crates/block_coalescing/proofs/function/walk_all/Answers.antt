use Rattle.bitvector_flow.specs.Flows.{has_at}
use Rattle.block_coalescing.proofs.Lifted.{some_then}
use Rattle.block_coalescing.proofs.Listed.{more_walked, all_walked}
use Rattle.block_coalescing.proofs.function.walk_all.Goals as goal

pub loop-at-preserved : goal.loop-at-preserved
loop-at-preserved c =
    more_walked c.args.temps (has_at c.args.tops.now) (has_at c.args.bottoms.now) c.args.blocks.now c.loop-at.at c.loop-at.made c.push.new.self c.in-Some.block c.in_ok-push-in-Some.ensures.ok c.loop-at.invariant
    (some_then _ c.in_ok-walk_at.field-0 c.in-Some.block c.in-Some.is c.in_ok-walk_at.ensures)

pub returns : goal.returns
returns c =
    all_walked c.args.temps (has_at c.args.tops.now) (has_at c.args.bottoms.now) c.args.blocks.now c.loop-at.at c.loop-at.made c.loop-at-test.false c.loop-at.auto.at-end c.loop-at.invariant
