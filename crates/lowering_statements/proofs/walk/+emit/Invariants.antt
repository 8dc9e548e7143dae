-- The code so far is that of the end of the list.
use Rattle.std.proofs.Common.{◌≡◌, ◌≤◌, drop, length, map, reverse}
use Rattle.c_typed_tree.specs.model.View.{stmts_view}
use Rattle.c_typed_tree.specs.model.Lists.{sections_view}
use Rattle.lowering_statements.specs.Scopes.{target_view}
use Rattle.lowering_statements.specs.model.Scopes.{stmts_code, sections_code, switch_targets}
use Rattle.lowering_statements.proofs.walk.+emit.Given as goal

abbrev pub invariant-stmts-loop-i : goal.invariant-stmts-loop-i
invariant-stmts-loop-i l =
    (l.i ≤ length l.list) × (l.code ≡ stmts_code l.scope l.break_to l.continue_to (stmts_view (drop l.i l.list)) l.initial.code)

abbrev pub decreases-stmts-loop-i : goal.decreases-stmts-loop-i
decreases-stmts-loop-i l = l.i

abbrev pub invariant-bodies-loop-i : goal.invariant-bodies-loop-i
invariant-bodies-loop-i l =
    (l.i ≤ length l.list) × (l.code ≡ sections_code l.scope l.break_to l.continue_to (sections_view (drop l.i l.list)) l.initial.code)
    × (map target_view (reverse l.found.items) ≡ switch_targets l.scope l.break_to l.continue_to (sections_view (drop l.i l.list)) l.initial.code)

abbrev pub decreases-bodies-loop-i : goal.decreases-bodies-loop-i
decreases-bodies-loop-i l = l.i
