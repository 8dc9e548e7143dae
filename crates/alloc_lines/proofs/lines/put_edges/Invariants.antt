-- What was put, with the text of what is left behind it, is the whole.
use Rattle.std.proofs.Common.{◌≡◌, ◌++◌, drop}
use Rattle.alloc_lines.specs.Text.{edges_text}
use Rattle.alloc_lines.proofs.lines.put_edges.Given as goal

abbrev pub invariant-loop-edge : goal.invariant-loop-edge
invariant-loop-edge l =
    l.out.items ++ edges_text (drop l.edge-index l.edges) ≡ l.initial.out.items ++ edges_text l.edges
