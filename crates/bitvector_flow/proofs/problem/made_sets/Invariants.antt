-- The sets of the blocks so far.
use Rattle.bitvector_flow.specs.model.Tested.{AreTested}
use Rattle.bitvector_flow.proofs.problem.made_sets.Given as goal

abbrev pub invariant-loop-block : goal.invariant-loop-block
invariant-loop-block g l = AreTested l.block (g.P.Problem.bound l.problem) (g.P.Problem.made l.problem) l.sets.items
