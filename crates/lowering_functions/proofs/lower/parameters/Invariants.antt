-- The code so far is that of the parameters from one on.
use Rattle.std.proofs.Common.{◌≡◌, ◌≤◌, take, drop}
use Rattle.lowering_functions.specs.model.Scopes.{parameters_code}
use Rattle.lowering_functions.proofs.lower.parameters.Given as goal

abbrev pub invariant-loop-k : goal.invariant-loop-k
invariant-loop-k l = (l.k ≤ l.params) × (l.code ≡ parameters_code l.scope l.k (drop l.k (take l.params l.scope.locals.now)) l.initial.code)

abbrev pub decreases-loop-k : goal.decreases-loop-k
decreases-loop-k l = l.k
