-- The elements that were seen are idle.
use Rattle.std.proofs.Common.{◌≡◌, drop}
use Rattle.c_typed_tree.specs.model.View.{exprs_view}
use Rattle.c_rewrite_rules.specs.Rules.{are_idle}
use Rattle.c_rewrite_rules.proofs.idle.+idle.Given as goal

abbrev pub invariant-are_idle-loop-e : goal.invariant-are_idle-loop-e
invariant-are_idle-loop-e l = are_idle l.locals (exprs_view (drop l.e-index l.list)) ≡ are_idle l.locals (exprs_view l.list)
