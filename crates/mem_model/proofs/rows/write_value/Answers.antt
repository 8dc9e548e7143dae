use Rattle.std.proofs.Common.{take, sym, ap, ◌∙◌}
use Rattle.mem_model.specs.Cells.{with_row}
use Rattle.mem_model.proofs.RowValues.{take-bytes_of, cells_of-word, cells_of-address}
use Rattle.mem_model.proofs.rows.write_value.Goals as goal

pub returns-in-Word : goal.returns-in-Word
returns-in-Word c = c.write_row.ensures ∙ ap (with_row c.args.cells.now c.args.at) (ap (take c.args.width) c.bytes.ensures ∙ take-bytes_of c.args.width 8 c.in-Word.number c.requires.narrow ∙ sym (cells_of-word c.args.width c.args.value c.in-Word.number c.in-Word.is))

pub returns-in-Address : goal.returns-in-Address
returns-in-Address c = c.write_pointer.ensures ∙ ap (with_row c.args.cells.now c.args.at) (sym (cells_of-address c.args.width c.args.value c.in-Address.pointer c.in-Address.is))
