use Rattle.std.proofs.Common.{◌≡◌, length, drop, arith}
use Rattle.mem_model.proofs.RowLaws.{with_row-step, with_row-end, row-more, length-row, length-wiped}
use Rattle.mem_model.proofs.rows.copy_from.Goals as goal

pub loop-k-preserved : goal.loop-k-preserved
loop-k-preserved c =
    let len : length c.wipe.new.cells ≡ length c.args.cells.now = length-wiped c.args.cells.now c.wipe.new.cells c.args.at c.args.size c.wipe.ensures c.requires.within in
    with_row-step _ _ _ _ _ c.args.at c.loop-k.k c.get.result c.loop-k.invariant c.set.ensures (row-more c.args.source.now c.args.from c.loop-k.k c.get.result c.get.ensures) (length-row c.args.source.now c.args.from c.loop-k.k (omega arith)) (omega arith)

pub returns : goal.returns
returns c = with_row-end c.args.cells.now c.wipe.new.cells c.loop-k.cells (drop c.args.from c.args.source.now) c.args.at c.args.size c.loop-k.k c.wipe.ensures c.loop-k.invariant (omega arith) (length-row c.args.source.now c.args.from c.args.size c.requires.source) c.requires.within
