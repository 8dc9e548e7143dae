use Rattle.std.proofs.Common.{◌≡◌, map, take}
use Rattle.cfg_edges.specs.model.Split.{is_split}
use Rattle.cfg_edges.proofs.marks.splits_of.Given as goal

abbrev pub invariant-loop-followers : goal.invariant-loop-followers
invariant-loop-followers l = l.splits.items ≡ map (is_split l.graph.pred) (take l.followers-index l.graph.succ)
