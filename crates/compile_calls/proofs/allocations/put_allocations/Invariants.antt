use Rattle.std.proofs.Common.{◌≡◌, ◌≤◌, ◌*◌, ◌^◌, ◌++◌, drop}
use Rattle.compile_calls.specs.Texts.{allocations_text}
use Rattle.compile_calls.proofs.allocations.put_allocations.Given as goal

abbrev pub invariant-loop-at : goal.invariant-loop-at
invariant-loop-at l =
    (l.out.items ++ allocations_text l.number (drop l.at l.allocations) ≡ l.initial.out.items ++ allocations_text 0 l.allocations)
    × (l.number ≤ l.at * 2 ^ 30)
