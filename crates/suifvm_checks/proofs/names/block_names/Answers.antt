use Rattle.std.proofs.Common.{IsTrue}
use Rattle.suifvm_ir.specs.Programs.{names_what_is_there}
use Rattle.pass_checks.proofs.Alls.{all_left}
use Rattle.suifvm_checks.proofs.names.block_names.Goals as goal

pub loop-line-preserved : goal.loop-line-preserved
loop-line-preserved c = λ rest.
    c.loop-line.invariant
    (all_left (λ i. IsTrue (names_what_is_there c.args.functions.now c.args.globals.now c.args.objects.now i))
    _ _ _ _ c.in-Some.ensures.steps c.if-not-insn_names.ensures rest)
