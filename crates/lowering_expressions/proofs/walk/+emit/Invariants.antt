-- The code so far is that of the end of the list.
use Rattle.std.proofs.Common.{◌≡◌, ◌+◌, ◌≤◌, drop, length}
use Rattle.c_typed_tree.specs.model.View.{exprs_view}
use Rattle.lowering_expressions.specs.model.Scopes.{exprs_code, commas_code}
use Rattle.lowering_expressions.proofs.walk.+emit.Given as goal

abbrev pub invariant-exprs-loop-i : goal.invariant-exprs-loop-i
invariant-exprs-loop-i l = (l.i ≤ length l.list) × (l.code ≡ exprs_code l.scope (l.depth + l.i) (exprs_view (drop l.i l.list)) l.initial.code)

abbrev pub decreases-exprs-loop-i : goal.decreases-exprs-loop-i
decreases-exprs-loop-i l = l.i

abbrev pub invariant-commas-loop-i : goal.invariant-commas-loop-i
invariant-commas-loop-i l = (l.i ≤ length l.list) × (l.code ≡ commas_code l.scope l.depth (exprs_view (drop l.i l.list)) l.initial.code)

abbrev pub decreases-commas-loop-i : goal.decreases-commas-loop-i
decreases-commas-loop-i l = l.i
