use Rattle.std.proofs.Common.{◌≡◌, map, sym, ap, ◌∙◌, subst}
use Rattle.pass_core.specs.Functions.{AllInsns}
use Rattle.selection_code.specs.Fields.{HasNumbers}
use Rattle.selection_code.specs.Functions.{selected_blocks}
use Rattle.suifvm_ir.specs.Programs.{VmFunction}
use Rattle.suifvm_zero_branches.specs.Tests.{tested_block}
use Rattle.suifvm_zero_branches.proofs.Functions.{tested_function}
use Rattle.selection_bounds.proofs.SelectionShapes.Shaped.{blocks_shaped}
use Rattle.selection_bounds.proofs.SelectionShapes.Registers.{registers_used}
use Rattle.alpha_select.specs.model.Limits.{IsWithinLimits}
use Rattle.alpha_select.proofs.Bounds.{numbers, few_blocks, few_insns}
use Rattle.alpha_select.proofs.Lawful.{within_limits}
use Rattle.alpha_select.proofs.functions.select_function.Goals as goal

pub function_blocks-requires-clause-numbers : goal.function_blocks-requires-clause-numbers
function_blocks-requires-clause-numbers c = subst (AllInsns HasNumbers) (sym c.as_slice-2.ensures) (numbers c.args.f.now c.requires)

pub invariant_of-result : goal.invariant_of-result
invariant_of-result c =
    let f = c.args.f.now in
    let with_tests : VmFunction = tested_function f in
    let small : IsWithinLimits with_tests = within_limits f c.requires in
    let same : c.in_ok-blocks.blocks ≡ selected_blocks f.params (map tested_block f.blocks) = c.in_ok-blocks.ensures.put ∙ ap (λ bs. selected_blocks f.params (map tested_block bs)) c.as_slice-2.ensures in
    let shaped = blocks_shaped with_tests in
    rw same (record {
      targets = shaped.targets;
      straight = shaped.straight;
      stops = shaped.stops;
      few_blocks = few_blocks with_tests small;
      few_insns = few_insns with_tests small;
      registers = registers_used with_tests c.requires.params;
    })
