-- Each kind of instruction does its case of the step.
use Rattle.std.proofs.Common.{refl, rules}
use Rattle.std.specs.Int.{w16, w32}
use Rattle.std.specs.Int.RustNames.{FitsSigned}
use Rattle.alpha_run.specs.model.ProcessorState.{processor_state}
use Rattle.alpha_run.proofs.Turns.{none_goes, plain_goes, memory_goes, branch_goes, call_steps}
use Rattle.alpha_run.proofs.processor.Processor.step.Goals as goal

pub returns-in-None-clause-step : goal.returns-in-None-clause-step
returns-in-None-clause-step c p x y r = none_goes p (processor_state c.args.self.now x y) (c.in-None.ensures.value p r)

pub returns-then-memory_step-clause-step : goal.returns-then-memory_step-clause-step
returns-then-memory_step-clause-step c p x y r =
    let fits : FitsSigned w16 c.in-Some-Memory.disp = search rules in
    memory_goes p (processor_state c.args.self.now x y) c.in-Some-Memory.field-0 _ _ _ c.in-Some-Memory.disp _ (c.in-Some-Memory.ensures.value p r) c.in-Some-Memory.field-0-is fits (c.if-memory_step.ensures.step p x y r)

pub returns-else-memory_step-clause-step : goal.returns-else-memory_step-clause-step
returns-else-memory_step-clause-step c p x y r =
    let fits : FitsSigned w16 c.in-Some-Memory.disp = search rules in
    memory_goes p (processor_state c.args.self.now x y) c.in-Some-Memory.field-0 _ _ _ c.in-Some-Memory.disp _ (c.in-Some-Memory.ensures.value p r) c.in-Some-Memory.field-0-is fits (c.if-memory_step.ensures.step p x y r)

pub returns-in-Some-Branch-clause-step : goal.returns-in-Some-Branch-clause-step
returns-in-Some-Branch-clause-step c p x y r =
    let fits : FitsSigned w32 c.in-Some-Branch.disp = search rules in
    branch_goes p (processor_state c.args.self.now x y) c.in-Some-Branch.field-0 _ _ c.in-Some-Branch.disp _ (c.in-Some-Branch.ensures.value p r) c.in-Some-Branch.field-0-is fits (c.branch_step.ensures.step x y)

pub returns-in-Some-Jump-clause-step : goal.returns-in-Some-Jump-clause-step
returns-in-Some-Jump-clause-step c p x y r = plain_goes p (processor_state c.args.self.now x y) c.in-Some-Jump.field-0 _ _ (c.in-Some-Jump.ensures.value p r) c.in-Some-Jump.field-0-is refl (c.jump_step.ensures.step x y)

pub returns-then-operate_step-clause-step : goal.returns-then-operate_step-clause-step
returns-then-operate_step-clause-step c p x y r = plain_goes p (processor_state c.args.self.now x y) c.in-Some-Operate.field-0 _ _ (c.in-Some-Operate.ensures.value p r) c.in-Some-Operate.field-0-is refl (c.if-operate_step.ensures.step x y)

pub returns-else-operate_step-clause-step : goal.returns-else-operate_step-clause-step
returns-else-operate_step-clause-step c p x y r = plain_goes p (processor_state c.args.self.now x y) c.in-Some-Operate.field-0 _ _ (c.in-Some-Operate.ensures.value p r) c.in-Some-Operate.field-0-is refl (c.if-operate_step.ensures.step x y)

pub returns-in-Some-Pal-clause-step : goal.returns-in-Some-Pal-clause-step
returns-in-Some-Pal-clause-step c p x y r = call_steps p (processor_state c.args.self.now x y) c.in-Some-Pal.field-0 _ c.call.result (c.in-Some-Pal.ensures.value p r) c.in-Some-Pal.field-0-is (c.call.ensures x y)
