use Rattle.std.proofs.Common.{length, ap, arith}
use Rattle.mem_model.proofs.TableLaws.{length-table}
use Rattle.mem_model.proofs.table.Table.put.Goals as goal

pub put_slot-requires-clause-within : goal.put_slot-requires-clause-within
put_slot-requires-clause-within c =
    omega (arith, length-table c.self.inside.ranks.items c.self.inside.pointers.items, ap length c.self.view_is, ap length c.deref_mut.ensures.value)
