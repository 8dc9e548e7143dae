use Rattle.block_coalescing.proofs.Endings.{programs_keep_endings}
use Rattle.block_coalescing.proofs.laws.coalesced_programs_keep_endings.Goals as goal

pub returns : goal.returns
returns c = programs_keep_endings c.only_these_trap.ensures
