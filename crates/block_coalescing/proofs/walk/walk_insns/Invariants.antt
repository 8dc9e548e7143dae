use Rattle.std.proofs.Common.{drop}
use Rattle.bk_bits.specs.Sets.{has}
use Rattle.block_coalescing.specs.model.Steps.{Leads}
use Rattle.block_coalescing.specs.model.Tables.{name_of}
use Rattle.block_coalescing.proofs.walk.walk_insns.Given as goal

abbrev pub invariant-loop-at : goal.invariant-loop-at
invariant-loop-at l = Leads l.temps (has l.bottom) (name_of l.fn.names l.top) l.insns l.made (name_of l.names l.top) (drop l.at l.insns)
