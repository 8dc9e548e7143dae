use Rattle.std.proofs.Common.{length}
use Rattle.mem_model.specs.model.Objects.{KeepsObjects}
use Rattle.mem_model.proofs.entries.trim.Given as goal

abbrev pub invariant-loop-entries : goal.invariant-loop-entries
invariant-loop-entries l = KeepsObjects l.initial.entries.items l.entries.items

abbrev pub decreases-loop-entries : goal.decreases-loop-entries
decreases-loop-entries l = length l.entries.items
