use Rattle.std.proofs.Common.{◌≡◌, ◌≤◌, ◌++◌, length, drop}
use Rattle.selection_code.specs.Instructions.{pass_items}
use Rattle.selection_code.proofs.calls.put_arguments.Given as goal

abbrev pub invariant-loop-index : goal.invariant-loop-index
invariant-loop-index l =
    (l.index ≤ length l.arguments) × (l.out ++ pass_items l.index (drop l.index l.arguments) ≡ l.initial.out ++ pass_items 0 l.arguments)
