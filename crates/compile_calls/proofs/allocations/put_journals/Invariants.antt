-- the journals so far stand behind what was there
use Rattle.std.proofs.Common.{◌≡◌, ◌++◌, take}
use Rattle.std.specs.Prelude.{flat_map}
use Rattle.alloc_lines.specs.Text.{journal_lines}
use Rattle.compile_calls.proofs.allocations.put_journals.Given as goal

abbrev pub invariant-loop-a : goal.invariant-loop-a
invariant-loop-a l = l.out.items ≡ l.fn.out.items ++ flat_map journal_lines (take l.a-index l.allocations)
