use Rattle.alloc_model.proofs.Traps.{only_these_trap}
use Rattle.alloc_model.proofs.laws.only_these_trap.Goals as goal

pub returns : goal.returns
returns c = only_these_trap
