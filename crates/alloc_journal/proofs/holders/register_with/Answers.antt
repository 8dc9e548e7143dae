use Rattle.alloc_journal.proofs.Tables.{some_low}
use Rattle.alloc_journal.proofs.holders.register_with.Goals as goal

pub returns-clause-given : goal.returns-clause-given
returns-clause-given c = some_low c.args.registers.now c.args.place c.register_at.result c.register_at.ensures c.requires
