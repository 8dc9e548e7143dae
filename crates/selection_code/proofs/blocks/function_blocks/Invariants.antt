-- The blocks so far are the code of the front of the list, and the first has the code of the parameters.
use Rattle.std.proofs.Common.{◌≡◌, take, map}
use Rattle.pass_core.specs.Functions.{AllInsns}
use Rattle.selection_code.specs.Functions.{selected_blocks}
use Rattle.selection_code.specs.Fields.{HasFields}
use Rattle.suifvm_zero_branches.specs.Tests.{tested_block}
use Rattle.selection_code.proofs.Fronts.{waiting_at}
use Rattle.selection_code.proofs.blocks.function_blocks.Given as goal

abbrev pub invariant-loop-block : goal.invariant-loop-block
invariant-loop-block l =
    (l.codes ≡ selected_blocks l.params (map tested_block (take l.block-index l.blocks))) × (l.waiting ≡ waiting_at l.params l.block-index)
    × AllInsns HasFields (take l.block-index l.blocks)
