-- What was selected so far is the front of the list.
use Rattle.std.proofs.Common.{take, All}
use Rattle.pass_core.specs.Functions.{AllInsns}
use Rattle.suifvm_ir.specs.Programs.{VmFunction}
use Rattle.selection_code.specs.Fields.{HasFields}
use Rattle.alpha_select.specs.Selection.{AreSelected}
use Rattle.alpha_select.proofs.functions.select_functions.Given as goal

abbrev pub invariant-loop-f : goal.invariant-loop-f
invariant-loop-f l =
    AreSelected (take l.f-index l.functions) l.selected × All (λ (f : VmFunction). AllInsns HasFields f.blocks) (take l.f-index l.functions)
