-- Behind the last instruction of a block the next one begins.
use Rattle.std.proofs.Common.{◌≡◌, None, refl, rules}
use Rattle.std.specs.Prelude.{slice_get}
use Rattle.suifvm_machine.specs.Tables.{block_insns}
use Rattle.suifvm_run.proofs.AtOnce.{stepped_past}
use Rattle.suifvm_run.proofs.quick.quick_step.Goals as goal

pub returns-in-None : goal.returns-in-None
returns-in-None c =
    let none : slice_get (block_insns c.args.machine.now.here.row.now) c.args.machine.now.here.at ≡ None = search rules in
    record {
      done = stepped_past c.args.machine.now c.quick_jump.new.machine c.quick_jump.result _ c.requires none refl c.quick_jump.ensures.done;
      kept = c.quick_jump.ensures.kept;
    }
