-- The lowest one from the registers below.
use Rattle.std.proofs.Common.{◌≡◌}
use Rattle.alloc_journal.specs.model.Leaving.{soonest}
use Rattle.alloc_journal.proofs.gone.soonest.Given as goal

abbrev pub invariant-loop-r : goal.invariant-loop-r
invariant-loop-r l = l.best ≡ soonest l.from l.fn.found l.before l.behind l.r
