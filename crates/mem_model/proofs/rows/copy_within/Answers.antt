use Rattle.std.proofs.Common.{◌≡◌, ◌+◌, length, take, drop, arith, Some}
use Rattle.std.specs.Prelude.{slice_get}
use Rattle.mem_model.proofs.RowLaws.{with_row-step, with_row-end, row-more, length-row, length-wiped, slice_get-with_row_apart, take-drop-wiped, apart_at}
use Rattle.mem_model.proofs.rows.copy_within.Goals as goal

pub loop-k-preserved : goal.loop-k-preserved
loop-k-preserved c =
    let len : length c.wipe.new.cells ≡ length c.args.cells.now = length-wiped c.args.cells.now c.wipe.new.cells c.args.to c.args.size c.wipe.ensures c.requires.within in
    let row : length (take c.loop-k.k (drop c.args.from c.wipe.new.cells)) ≡ c.loop-k.k = length-row c.wipe.new.cells c.args.from c.loop-k.k (omega arith) in
    let there : slice_get c.wipe.new.cells (c.args.from + c.loop-k.k) ≡ Some c.get-cell.result =
    slice_get-with_row_apart c.wipe.new.cells _ c.loop-k.cells c.args.to (c.args.from + c.loop-k.k) c.get-cell.result c.loop-k.invariant (omega arith) (apart_at c.args.to c.args.from c.args.size c.loop-k.k _ c.loop-k-test.true row c.requires.apart) c.get-cell.ensures in
    with_row-step _ _ _ _ _ c.args.to c.loop-k.k c.get-cell.result c.loop-k.invariant c.set.ensures (row-more c.wipe.new.cells c.args.from c.loop-k.k c.get-cell.result there) row (omega arith)

pub returns : goal.returns
returns c = with_row-end c.args.cells.now c.wipe.new.cells c.loop-k.cells (drop c.args.from c.args.cells.now) c.args.to c.args.size c.loop-k.k c.wipe.ensures (take-drop-wiped c.args.cells.now c.wipe.new.cells c.loop-k.cells c.args.to c.args.from c.args.size c.loop-k.k c.wipe.ensures c.requires.within (omega arith) c.requires.apart c.loop-k.invariant) (omega arith) (length-row c.args.cells.now c.args.from c.args.size c.requires.source) c.requires.within
