use Rattle.std.proofs.Common.{◌∙◌, subst}
use Rattle.bk_bits.specs.Sets.{has}
use Rattle.block_coalescing.specs.Walks.{BlockWalked}
use Rattle.block_coalescing.proofs.Lifted.{if_ok, if_some}
use Rattle.block_coalescing.proofs.Listed.{walked_at}
use Rattle.block_coalescing.proofs.function.walk_at.Goals as goal

pub returns : goal.returns
returns c =
    let top = c.in-Some-set_at.top.now in
    let bottom = c.in-Some-set_at-2.bottom.now in
    let insns = c.in-Some.block.now in
    if_ok c.walk_block.result (λ made. if_some made (λ ys w.
    walked_at c.args.temps c.args.tops.now c.args.bottoms.now c.args.blocks.now c.args.at top bottom insns ys
    c.in-Some-set_at.ensures c.in-Some-set_at-2.ensures c.in-Some.ensures
    (subst (λ l. BlockWalked c.args.temps (has top) (has bottom) l ys) (c.as_slice-2.ensures.value ∙ c.in_ok-insns.ensures) w))) c.walk_block.ensures
