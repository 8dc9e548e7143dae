use Rattle.std.proofs.Common.{◌≡◌, ◌++◌, replicate, vec_capacity}
use Rattle.mem_model.specs.model.Table.{no_pointer}
use Rattle.mem_model.proofs.table.use_block.Given as goal

abbrev pub invariant-loop-made : goal.invariant-loop-made
invariant-loop-made l = (l.pointers.items ≡ l.initial.pointers.items ++ replicate l.made no_pointer) × (vec_capacity l.pointers ≡ vec_capacity l.initial.pointers)
