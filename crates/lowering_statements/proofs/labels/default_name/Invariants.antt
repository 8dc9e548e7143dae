-- The name that the labels from a place on give.
use Rattle.std.proofs.Common.{◌≡◌, ◌≤◌, drop, length}
use Rattle.lowering_statements.specs.Scopes.{default_name}
use Rattle.lowering_statements.proofs.labels.default_name.Given as goal

abbrev pub invariant-loop-i : goal.invariant-loop-i
invariant-loop-i l = (l.i ≤ length l.targets) × (l.name ≡ default_name l.otherwise (drop l.i l.targets))

abbrev pub decreases-loop-i : goal.decreases-loop-i
decreases-loop-i l = l.i
