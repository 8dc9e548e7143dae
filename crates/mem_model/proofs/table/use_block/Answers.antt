use Rattle.std.proofs.Common.{◌≡◌, ◌+◌, ◌/◌, ◌<◌, set, arith}
use Rattle.mem_model.specs.model.Table.{free_blocks}
use Rattle.mem_model.proofs.TableLaws.{free_blocks-some, free_blocks-set, length-more, use_block-done}
use Rattle.mem_model.proofs.table.use_block.Goals as goal

pub push_reserved-requires : goal.push_reserved-requires
push_reserved-requires c =
    let free = free_blocks-some c.args.ranks.now c.args.block c.requires.within (omega arith) in
    let len = length-more c.args.pointers.now.items c.loop-made.pointers.items c.loop-made.made c.loop-made.invariant.0 in
    omega (arith, c.loop-made.invariant.1)

pub returns-clause-same : goal.returns-clause-same
returns-clause-same c =
    use_block-done c.args.ranks.now c.args.pointers.now.items c.loop-made.pointers.items c.args.block (c.len.result / 8) c.loop-made.made c.requires.table c.requires.within (omega arith) c.loop-made.invariant.0 (omega arith) (omega arith)

pub returns-clause-room : goal.returns-clause-room
returns-clause-room c =
    let len = length-more c.args.pointers.now.items c.loop-made.pointers.items c.loop-made.made c.loop-made.invariant.0 in
    let some : 0 < c.len.result / 8 = omega arith in
    let free : free_blocks (set c.args.ranks.now c.args.block (c.len.result / 8)) + 1 ≡ free_blocks c.args.ranks.now =
    free_blocks-set c.args.ranks.now c.args.block (c.len.result / 8) c.requires.within (omega arith) some in
    omega (arith, c.loop-made.invariant.1)
