use Rattle.mem_model.proofs.RelatedRows.{rows_are_as_long, rows_have_parts, rows_are_read, rows_are_written, values_have_rows, fresh_rows, names_grow, values_stay}
use Rattle.mem_model.proofs.laws.rows_correspond.Goals as goal

pub returns : goal.returns
returns c = record { as_long = rows_are_as_long; parts = rows_have_parts; read = rows_are_read; written = rows_are_written; values = values_have_rows; fresh = fresh_rows; names = names_grow; more = values_stay }
