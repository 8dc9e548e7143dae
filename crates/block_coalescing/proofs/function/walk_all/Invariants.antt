use Rattle.bitvector_flow.specs.Flows.{has_at}
use Rattle.block_coalescing.specs.model.Steps.{AreWalkedTo}
use Rattle.block_coalescing.proofs.function.walk_all.Given as goal

abbrev pub invariant-loop-at : goal.invariant-loop-at
invariant-loop-at l = AreWalkedTo l.at l.temps (has_at l.tops) (has_at l.bottoms) l.blocks l.made
