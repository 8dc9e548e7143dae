-- What stands behind the place is cleaned.
use Rattle.std.proofs.Common.{length}
use Rattle.bk_bits.specs.Sets.{has}
use Rattle.flow_clean.specs.model.Walks.{IsCleanedFrom, count_up_to}
use Rattle.flow_clean.proofs.dead.clean_list.Given as goal

abbrev pub invariant-loop-at : goal.invariant-loop-at
invariant-loop-at l = IsCleanedFrom (has l.initial.wanted) (length l.initial.wanted) l.list.pairs l.at l.kept l.wanted

abbrev pub decreases-loop-at : goal.decreases-loop-at
decreases-loop-at l = count_up_to l.list.pairs l.at
