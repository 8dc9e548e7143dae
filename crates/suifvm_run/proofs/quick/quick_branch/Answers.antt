-- The test is that of the word.
use Rattle.std.proofs.Common.{sym, ap, ◌∙◌}
use Rattle.suifvm_meaning.specs.Operations.{value_holds}
use Rattle.suifvm_run.proofs.AtOnce.{branched_on}
use Rattle.suifvm_run.proofs.quick.quick_branch.Goals as goal

pub returns : goal.returns
returns c = record {
  done = branched_on c.args.machine.now c.quick_test.new.machine c.quick_test.result c.args.op c.in-Some-word_holds.test _ c.args.block (ap (value_holds c.args.machine.now.memory c.args.ty) (sym c.in-Some.ensures) ∙ c.in-Some-word_holds.ensures c.args.machine.now.memory) c.quick_test.ensures.done;
  kept = c.quick_test.ensures.kept;
}
