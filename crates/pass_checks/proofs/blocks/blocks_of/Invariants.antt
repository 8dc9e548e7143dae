use Rattle.std.proofs.Common.{◌≡◌, ◌++◌}
use Rattle.std.specs.Vec.Iter.{into_iter_items}
use Rattle.pass_checks.proofs.blocks.blocks_of.Given as goal

abbrev pub invariant-loop-insns : goal.invariant-loop-insns
invariant-loop-insns g l = l.blocks ++ into_iter_items l.insns-iterator ≡ l.fn.lists.items
