-- The code so far is that of the declarations from a place on.
use Rattle.std.proofs.Common.{◌≡◌, ◌≤◌, drop, length, map}
use Rattle.c_typed_tree.specs.View.{local_view}
use Rattle.lowering_statements.specs.model.Scopes.{declares_code}
use Rattle.lowering_statements.proofs.values.declares.Given as goal

abbrev pub invariant-loop-i : goal.invariant-loop-i
invariant-loop-i l = (l.i ≤ length l.list) × (l.code ≡ declares_code l.scope (map local_view (drop l.i l.list)) l.initial.code)

abbrev pub decreases-loop-i : goal.decreases-loop-i
decreases-loop-i l = l.i
