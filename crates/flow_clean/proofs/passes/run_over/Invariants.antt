-- What was made so far is of the front of the list.
use Rattle.std.proofs.Common.{take}
use Rattle.std.specs.List.{AllZip}
use Rattle.flow_clean.proofs.passes.run_over.Given as goal

abbrev pub invariant-loop-f : goal.invariant-loop-f
invariant-loop-f g l = AllZip g.P.FunctionPass.gives (take l.f-index l.functions) l.made
