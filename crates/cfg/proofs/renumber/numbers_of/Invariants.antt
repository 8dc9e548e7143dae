use Rattle.cfg.proofs.Blocks.{IsCounted}
use Rattle.cfg.proofs.renumber.numbers_of.Given as goal

abbrev pub invariant-loop-mark : goal.invariant-loop-mark
invariant-loop-mark l = IsCounted l.marks l.numbers.items l.next l.mark-index
