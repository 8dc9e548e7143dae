-- The parts so far.
use Rattle.suifvm_operations.specs.model.Units.{HasParts}
use Rattle.suifvm_operations.proofs.start.is_whole.Given as goal

abbrev pub invariant-loop-part : goal.invariant-loop-part
invariant-loop-part l = HasParts l.cells l.global l.plus l.part
