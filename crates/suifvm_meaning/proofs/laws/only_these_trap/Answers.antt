use Rattle.suifvm_meaning.proofs.Traps.{only_these_trap}
use Rattle.suifvm_meaning.proofs.laws.only_these_trap.Goals as goal

pub returns : goal.returns
returns c = only_these_trap
