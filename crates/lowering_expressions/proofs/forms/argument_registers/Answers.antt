-- Each argument has a register, behind those of the front.
use Rattle.lowering_expressions.proofs.Depths.{register_there}
use Rattle.lowering_expressions.proofs.forms.argument_registers.Goals as goal

pub value-requires : goal.value-requires
value-requires c = register_there c.args.scope.now _ _ _ _ _ c.loop-argument-test.true c.argument-item.is c.loop-argument.invariant.1 c.requires
