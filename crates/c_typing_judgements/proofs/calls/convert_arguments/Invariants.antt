use Rattle.std.proofs.Common.{◌≡◌, [], Some, drop}
use Rattle.std.specs.Vec.Iter.{into_iter_items}
use Rattle.c_typing_judgements.specs.Calls as spec
use Rattle.c_typing_judgements.proofs.calls.convert_arguments.Given as goal

abbrev pub invariant-loop-parameter : goal.invariant-loop-parameter
invariant-loop-parameter l = spec.convert_arguments l.parameters l.fn.arguments (Some []) l.fn.notes ≡ spec.convert_arguments (drop l.parameter-index l.parameters) (into_iter_items l.rest) l.found l.notes
