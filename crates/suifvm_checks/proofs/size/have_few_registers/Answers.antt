use Rattle.std.proofs.Common.{◌^◌, ◌≤◌, arith}
use Rattle.suifvm_ir.specs.Programs.{VmFunction}
use Rattle.pass_checks.proofs.Alls.{all_more, all_done}
use Rattle.suifvm_checks.proofs.size.have_few_registers.Goals as goal

pub loop-function-preserved : goal.loop-function-preserved
loop-function-preserved c =
    all_more (λ (f : VmFunction). f.temps ≤ 2 ^ 24) c.args.functions.now c.loop-function.function-index _ c.loop-function-test.true c.function-item.is
    c.loop-function.invariant (omega arith)

pub returns : goal.returns
returns c = all_done (λ (f : VmFunction). f.temps ≤ 2 ^ 24) c.args.functions.now c.loop-function.function-index (omega arith) c.loop-function.invariant
