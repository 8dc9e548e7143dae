use Rattle.binpack_blocks.proofs.Bringing.{read_is_named}
use Rattle.binpack_blocks.proofs.bins.Scan.bring_all.Goals as goal

pub bring-requires-clause-open : goal.bring-requires-clause-open
bring-requires-clause-open c = c.requires.open c.in-Some.first (read_is_named c.args.insn.now 0 c.in-Some.first c.in-Some.ensures)
