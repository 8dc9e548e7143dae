use Rattle.selection_code.proofs.Fronts.{blocks_turn, waiting_next, fields_turn}
use Rattle.selection_code.proofs.blocks.function_blocks.Goals as goal

pub loop-block-preserved : goal.loop-block-preserved
loop-block-preserved c =
    let lt = c.loop-block-test.true in (
      blocks_turn c.args.params c.loop-block.block-index c.loop-block.waiting c.args.blocks.now _ _ c.loop-block.codes c.push.new.self _ lt c.block-item.is c.loop-block.invariant.0 c.loop-block.invariant.1 c.in_ok-block_code.ensures.put c.in_ok-push.ensures.ok,
      waiting_next c.args.params c.loop-block.block-index,
      fields_turn c.loop-block.block-index c.args.blocks.now _ _ lt c.block-item.is c.loop-block.invariant.2 c.in_ok-block_code.ensures.fields,
    )
