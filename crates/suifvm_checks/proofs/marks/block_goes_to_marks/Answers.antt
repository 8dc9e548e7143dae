use Rattle.std.proofs.Common.{IsTrue}
use Rattle.suifvm_ir.specs.Programs.{goes_back_to_marks}
use Rattle.pass_checks.proofs.Alls.{all_left}
use Rattle.suifvm_checks.proofs.marks.block_goes_to_marks.Goals as goal

pub loop-line-preserved : goal.loop-line-preserved
loop-line-preserved c = λ rest.
    c.loop-line.invariant
    (all_left (λ i. IsTrue (goes_back_to_marks c.args.blocks.now c.args.at i))
    _ _ _ _ c.in-Some.ensures.steps c.if-not-goes_to_marks.ensures rest)
