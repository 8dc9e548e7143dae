use Rattle.std.proofs.Common.{arith}
use Rattle.suifvm_ir.specs.Programs.{IsLawfulFunction}
use Rattle.pass_checks.proofs.Alls.{all_more, all_done}
use Rattle.suifvm_checks.proofs.program.are_lawful.Goals as goal

pub loop-function-preserved : goal.loop-function-preserved
loop-function-preserved c =
    all_more (IsLawfulFunction c.args.functions.now c.args.globals.now) c.args.functions.now
    c.loop-function.function-index c.function-item.result c.loop-function-test.true c.function-item.is
    c.loop-function.invariant c.if-not-is_lawful.ensures

pub returns : goal.returns
returns c =
    all_done (IsLawfulFunction c.args.functions.now c.args.globals.now) c.args.functions.now
    c.loop-function.function-index (omega arith) c.loop-function.invariant
