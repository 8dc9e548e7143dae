use Rattle.mem_model.proofs.RowValues.{le_bytes}
use Rattle.mem_model.proofs.rows.bytes.Goals as goal

pub returns : goal.returns
returns c = le_bytes c.args.number c.to_le_bytes.result c.to_le_bytes.ensures
