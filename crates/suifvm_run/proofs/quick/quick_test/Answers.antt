-- A branch that is taken.
use Rattle.std.proofs.Common.{◌≡◌, true, rules}
use Rattle.suifvm_meaning.specs.Effect.{is_branch_taken}
use Rattle.suifvm_run.proofs.AtOnce.{branched_there}
use Rattle.suifvm_run.proofs.quick.quick_test.Goals as goal

pub returns-then-is_taken : goal.returns-then-is_taken
returns-then-is_taken c =
    let taken : is_branch_taken c.args.op c.args.test ≡ true = search rules in
    record {
      done = branched_there c.args.machine.now c.quick_jump.new.machine c.quick_jump.result c.args.op c.args.test c.args.block taken c.quick_jump.ensures.done;
      kept = c.quick_jump.ensures.kept;
    }
