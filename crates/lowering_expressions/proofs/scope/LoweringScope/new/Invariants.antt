-- What was counted so far.
use Rattle.std.proofs.Common.{◌≡◌, ◌≤◌, ℕ, min, length, get_or}
use Rattle.lowering_code.specs.Registers.{object_index}
use Rattle.lowering_expressions.proofs.scope.LoweringScope.new.Given as goal

abbrev pub invariant-loop-local : goal.invariant-loop-local
invariant-loop-local l = (length l.objects.items ≡ l.local-index) × (l.object_count ≡ object_index l.locals l.local-index) × (l.object_count ≤ l.local-index) × ((k : ℕ) → get_or l.objects.items k l.object_count ≡ object_index l.locals (min k l.local-index))
