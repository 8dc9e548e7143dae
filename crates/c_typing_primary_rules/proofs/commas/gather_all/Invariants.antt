use Rattle.std.proofs.Common.{◌≡◌, length}
use Rattle.std.specs.Vec.Iter.{into_iter_items}
use Rattle.c_typing_primary_rules.specs.Commas as spec
use Rattle.c_typing_primary_rules.proofs.commas.gather_all.Given as goal

abbrev pub invariant-loop-operand : goal.invariant-loop-operand
invariant-loop-operand l = spec.comma_operands spec.no_operands l.fn.operands ≡ spec.comma_operands l.gathered (into_iter_items l.rest)

abbrev pub decreases-loop-operand : goal.decreases-loop-operand
decreases-loop-operand l = length (into_iter_items l.rest)
