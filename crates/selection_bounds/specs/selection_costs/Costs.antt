-- How long the selected code of a function is, and what it costs.
use Rattle.std.specs.Prelude.{◌≡◌, ◌+◌, ◌*◌, ◌≤◌, length}
use Rattle.pass_core.specs.Functions.{count_of}
use Rattle.suifvm_ir.specs.Programs.{VmFunction, function_size}
use Rattle.suifvm_ir.specs.Cost.{cost}
use Rattle.temp_ir.specs.Programs.{TempFn}
use Rattle.temp_ir.specs.Cost.{bulk_when_split}
use Rattle.selection_code.specs.Functions.{selected_blocks}

-- Five times the blocks of a selected function, and its instructions, are at most 13 times the size of the function
-- that was given; it has as many blocks
pub record IsShort (f : VmFunction) : Type 0 where
  pub blocks : length (selected_blocks f.params f.blocks) ≡ length f.blocks
  pub count : 5 * length (selected_blocks f.params f.blocks) + count_of (selected_blocks f.params f.blocks)
      ≤ 13 * function_size f

abbrev pub CodeIsShort : Type 0
CodeIsShort = (f : VmFunction) → IsShort f

-- the bulk of a function with the selected blocks, with all that splitting its edges may add, is at most the cost of
-- the function that was given
abbrev pub CodeCostsLittle : Type 0
CodeCostsLittle =
    (f : VmFunction) (g : TempFn) → g.blocks ≡ selected_blocks f.params f.blocks → bulk_when_split g ≤ cost f
