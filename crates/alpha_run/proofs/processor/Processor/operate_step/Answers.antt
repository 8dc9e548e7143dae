-- An operation that keeps its destination goes on.
use Rattle.std.proofs.Common.{ap, ◌∙◌}
use Rattle.alpha_isa.specs.Arithmetic.{operation_effect}
use Rattle.alpha_isa.specs.State.{State, register}
use Rattle.alpha_isa.specs.Step.{operate_step}
use Rattle.alpha_run.specs.model.ProcessorState.{processor_state}
use Rattle.alpha_run.proofs.processor.Processor.operate_step.Goals as goal

pub returns-in-Keeps-clause-step : goal.returns-in-Keeps-clause-step
returns-in-Keeps-clause-step c x y =
    let s : State = processor_state c.args.self.now x y in
    c.advance.ensures.step x y
    ∙ ap (λ v. operate_step v c.args.rc s) (c.in-Keeps.ensures ∙ ap (λ n. operation_effect c.args.op n c.operand.result) c.get.ensures ∙ ap (λ n. operation_effect c.args.op (register s c.args.ra) n) (c.operand.ensures x y))
