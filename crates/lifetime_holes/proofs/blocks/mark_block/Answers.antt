use Rattle.lifetime_holes.proofs.Stepping.{block_spanned}
use Rattle.lifetime_holes.proofs.blocks.mark_block.Goals as goal

pub returns-clause-parts : goal.returns-clause-parts
returns-clause-parts c =
    block_spanned c.args.number c.in_ok-next.next c.args.block.now c.args.bottom.now c.args.parts.now c.mark_insns.new.parts c.mark_bottom.new.table
    c.in_ok-next.ensures.next c.in_ok-next.ensures.parts c.in_ok-mark_bottom.ensures.closed c.in_ok-mark_bottom.ensures.kept
