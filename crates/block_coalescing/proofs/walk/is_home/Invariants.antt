use Rattle.block_coalescing.specs.model.Tables.{name_of}
use Rattle.block_coalescing.proofs.Homes.{HomeTo}
use Rattle.block_coalescing.proofs.walk.is_home.Given as goal

abbrev pub invariant-loop-turn : goal.invariant-loop-turn
invariant-loop-turn l = HomeTo l.bottom (name_of l.names l.top) l.from
