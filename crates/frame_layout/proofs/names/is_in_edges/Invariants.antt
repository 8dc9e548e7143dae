-- None of those so far names the register.
use Rattle.std.proofs.Common.{◌≡◌, false, take}
use Rattle.std.specs.List.{list_any}
use Rattle.frame_emitter.specs.Shapes.{names_in}
use Rattle.frame_layout.proofs.names.is_in_edges.Given as goal

abbrev pub invariant-loop-edge : goal.invariant-loop-edge
invariant-loop-edge l = list_any (λ e. names_in e.code l.register) (take l.edge-index l.edges) ≡ false
