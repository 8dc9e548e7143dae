-- The keys so far.
use Rattle.std.proofs.Common.{◌≡◌, map, take}
use Rattle.frame_layout.specs.model.Edges.{top_key}
use Rattle.frame_layout.proofs.edges.top_keys.Given as goal

abbrev pub invariant-loop-edge : goal.invariant-loop-edge
invariant-loop-edge l = l.keys.items ≡ map (top_key l.blocks) (take l.edge-index l.edges)
