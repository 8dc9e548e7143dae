use Rattle.alloc_journal.proofs.holders.move_all.Goals as goal

pub move_one-requires-clause-given : goal.move_one-requires-clause-given
move_one-requires-clause-given c = c.requires.given c.loop-transfer.transfer-index _ c.loop-transfer-test.true
