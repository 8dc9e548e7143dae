use Rattle.cfg_edges.proofs.Splits.{IsNumbered}
use Rattle.cfg_edges.proofs.marks.numbers_of.Given as goal

abbrev pub invariant-loop-split : goal.invariant-loop-split
invariant-loop-split l = IsNumbered l.splits l.numbers.items l.next l.split-index
