-- The answer is that of the load.
use Rattle.std.proofs.Common.{ap, ◌∙◌, rules}
use Rattle.std.specs.Int.{w64}
use Rattle.std.specs.Int.RustNames.{FitsSigned}
use Rattle.std.proofs.lemmas.Int.{to_z-of_z}
use Rattle.suifvm_meaning.specs.Operations.{loaded_answer}
use Rattle.suifvm_run.proofs.AtOnce.{gave_as}
use Rattle.suifvm_run.proofs.quick.quick_load.Goals as goal

pub returns : goal.returns
returns c =
    let fits : FitsSigned w64 c.args.plus = search rules in
    record {
      done = gave_as c.args.machine.now c.put_answer.new.machine c.put_answer.result (λ a. loaded_answer c.args.machine.now.memory c.args.ty a c.args.plus) c.args.destination c.load-answer.result c.get.result _ (c.load-answer.ensures ∙ ap (loaded_answer c.args.machine.now.memory c.args.ty c.get.result) (to_z-of_z w64 c.args.plus fits)) c.get.ensures c.put_answer.ensures.done;
      kept = c.put_answer.ensures.kept;
    }
