-- The ends of the blocks behind are known.
use Rattle.std.proofs.Common.{◌-◌, length}
use Rattle.flow_clean.specs.model.Ends.{AreEndsFrom}
use Rattle.flow_clean.proofs.ends.ends_of.Given as goal

abbrev pub invariant-loop-turn : goal.invariant-loop-turn
invariant-loop-turn l = AreEndsFrom l.blocks (length l.blocks - l.turn) l.ends.items
