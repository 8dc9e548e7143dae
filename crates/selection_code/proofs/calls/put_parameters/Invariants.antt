use Rattle.std.proofs.Common.{◌≡◌, ◌≤◌, ◌-◌, ◌++◌}
use Rattle.selection_code.specs.Instructions.{take_items}
use Rattle.selection_code.proofs.calls.put_parameters.Given as goal

abbrev pub invariant-loop-number : goal.invariant-loop-number
invariant-loop-number l = (l.number ≤ l.count) × (l.out ++ take_items l.number (l.count - l.number) ≡ l.initial.out ++ take_items 0 l.count)
