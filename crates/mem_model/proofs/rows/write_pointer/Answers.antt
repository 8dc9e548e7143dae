use Rattle.std.proofs.Common.{ap, ◌∙◌}
use Rattle.mem_model.specs.Cells.{with_row, parts_of}
use Rattle.mem_model.proofs.RowLaws.{with_row-over}
use Rattle.mem_model.proofs.RowValues.{length-parts_of}
use Rattle.mem_model.proofs.rows.write_pointer.Goals as goal

pub returns : goal.returns
returns c =
    with_row-over c.args.cells.now c.wipe.new.cells _ (parts_of c.args.pointer) c.args.at 8 c.wipe.ensures
    (c.write_row.ensures ∙ ap (with_row c.wipe.new.cells c.args.at) c.parts.ensures) (length-parts_of c.args.pointer) c.requires.within
