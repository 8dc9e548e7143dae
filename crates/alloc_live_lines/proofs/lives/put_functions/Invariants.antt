-- the texts of the functions so far stand behind what was there
use Rattle.alloc_live_lines.proofs.Functions.{AreSoFar}
use Rattle.alloc_live_lines.proofs.lives.put_functions.Given as goal

abbrev pub invariant-loop-at : goal.invariant-loop-at
invariant-loop-at l = AreSoFar l.functions l.at l.initial.out.items l.out.items
