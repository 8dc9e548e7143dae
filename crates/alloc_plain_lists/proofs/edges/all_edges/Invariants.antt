-- The edges of the blocks so far.
use Rattle.std.proofs.Common.{◌≡◌, take}
use Rattle.alloc_plain_lists.specs.Plain.{all_edges}
use Rattle.alloc_plain_lists.proofs.edges.all_edges.Given as goal

abbrev pub invariant-loop-number : goal.invariant-loop-number
invariant-loop-number l = l.edges ≡ all_edges 0 (take l.number l.blocks)
