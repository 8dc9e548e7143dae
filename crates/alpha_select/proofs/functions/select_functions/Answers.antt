use Rattle.pass_core.specs.Functions.{AllInsns}
use Rattle.suifvm_ir.specs.Programs.{VmFunction}
use Rattle.selection_code.specs.Fields.{HasFields}
use Rattle.alpha_select.proofs.Lists.{selected_turn, all_turn}
use Rattle.alpha_select.proofs.functions.select_functions.Goals as goal

pub loop-f-preserved : goal.loop-f-preserved
loop-f-preserved c =
    let lt = c.loop-f-test.true in (
      selected_turn c.loop-f.f-index c.args.functions.now c.loop-f.selected c.push.new.self _ _ _ lt c.f-item.is c.loop-f.invariant.0 c.in_ok-select_function.ensures.selected c.in_ok-push.ensures.ok,
      all_turn (λ (f : VmFunction). AllInsns HasFields f.blocks) c.loop-f.f-index c.args.functions.now _ _ lt c.f-item.is c.loop-f.invariant.1 c.in_ok-select_function.ensures.fields,
    )
