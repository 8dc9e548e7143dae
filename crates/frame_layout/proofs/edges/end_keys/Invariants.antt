-- The keys so far.
use Rattle.std.proofs.Common.{◌≡◌, map, take}
use Rattle.frame_layout.specs.model.Edges.{end_key}
use Rattle.frame_layout.proofs.edges.end_keys.Given as goal

abbrev pub invariant-loop-edge : goal.invariant-loop-edge
invariant-loop-edge l = l.keys.items ≡ map (end_key l.blocks) (take l.edge-index l.edges)
