-- The scope is that of the function.
use Rattle.lowering_functions.proofs.Objects.{items_same}
use Rattle.lowering_functions.proofs.lower.items.Goals as goal

pub returns : goal.returns
returns c =
    items_same c.in_ok-scope.scope c.args.structs.now c.as_slice.result.now c.args.f.now _ c.in_ok-scope.ensures.structs c.in_ok-scope.ensures.locals c.as_slice.ensures c.in_ok-scope.ensures.registers c.in_ok-code.ensures
