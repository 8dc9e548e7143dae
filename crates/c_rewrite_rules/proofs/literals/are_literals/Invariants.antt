-- The elements that were seen are literals.
use Rattle.std.proofs.Common.{◌≡◌, drop}
use Rattle.c_typed_tree.specs.model.View.{exprs_view}
use Rattle.c_rewrite_rules.specs.Rules.{are_literals}
use Rattle.c_rewrite_rules.proofs.literals.are_literals.Given as goal

abbrev pub invariant-loop-e : goal.invariant-loop-e
invariant-loop-e l = are_literals (exprs_view (drop l.e-index l.list)) ≡ are_literals (exprs_view l.list)
