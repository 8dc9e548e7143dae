use Rattle.std.proofs.Common.{get_or, ap, ◌∙◌, arith}
use Rattle.std.proofs.lemmas.List.{take_more, take_all, length-take-le}
use Rattle.mem_model.specs.Cells.{with_row}
use Rattle.mem_model.specs.declared.value.Cell.TheVariants.{Empty}
use Rattle.mem_model.proofs.RowLaws.{with_row-step}
use Rattle.mem_model.proofs.rows.write_row.Goals as goal

pub loop-k-preserved : goal.loop-k-preserved
loop-k-preserved c =
    with_row-step _ _ _ _ _ c.args.at c.loop-k.k (get_or c.args.row.now c.loop-k.k Empty) c.loop-k.invariant c.set.ensures (take_more c.args.row.now c.loop-k.k Empty (omega arith)) (length-take-le c.loop-k.k c.args.row.now (omega arith)) (omega arith)

pub returns : goal.returns
returns c = c.loop-k.invariant ∙ ap (with_row c.args.cells.now c.args.at) (take_all c.loop-k.k c.args.row.now (omega arith))
