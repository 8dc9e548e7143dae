-- The code so far is that of the labels from a place on.
use Rattle.std.proofs.Common.{◌≡◌, ◌≤◌, drop, length}
use Rattle.c_typed_tree.specs.View.{type_view}
use Rattle.lowering_statements.specs.Scopes.{labels_code}
use Rattle.lowering_statements.proofs.labels.labels.Given as goal

abbrev pub invariant-loop-i : goal.invariant-loop-i
invariant-loop-i l = (l.i ≤ length l.targets) × (l.code ≡ labels_code l.scope (type_view l.ty) (drop l.i l.targets) l.initial.code)

abbrev pub decreases-loop-i : goal.decreases-loop-i
decreases-loop-i l = l.i
