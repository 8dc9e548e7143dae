-- A declaration takes no more depths than all of them.
use Rattle.std.proofs.Common.{◌-◌, ap, arith}
use Rattle.c_typed_tree.specs.View.{local_view}
use Rattle.lowering_statements.specs.Levels.{declared_levels}
use Rattle.lowering_statements.proofs.Lists.{local_at}
use Rattle.lowering_statements.proofs.values.declares.Goals as goal

pub declare-requires-clause-value : goal.declare-requires-clause-value
declare-requires-clause-value c =
    omega (arith, local_at c.args.list.now (c.loop-i.i - 1) c.index-list-i.result (omega (arith, c.loop-i.invariant.0, c.loop-i-test.true)), ap (λ x. declared_levels (local_view x)) c.index-list-i.is, c.requires.values, c.loop-i.invariant.0, c.loop-i-test.true)
