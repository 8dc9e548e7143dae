use Rattle.mem_model.proofs.TableLaws.{table-none}
use Rattle.mem_model.proofs.table.Table.none.Goals as goal

pub returns : goal.returns
returns c = table-none _ _ c.new.ensures.items
