-- The argument places that selected functions name.
use Rattle.std.specs.Prelude.{◌^◌, ◌≤◌}
use Rattle.pass_core.specs.Functions.{AllInsns}
use Rattle.suifvm_ir.specs.Programs.{VmFunction, function_size}
use Rattle.selection_code.specs.Functions.{selected_blocks}
use Rattle.frame_bounds.specs.Near.{IsNear}

-- a selected function names none that is numbered past 2 ^ 24, since its size is at most that
abbrev pub SelectedFunctionsAreNear : Type 0
SelectedFunctionsAreNear =
    (f : VmFunction) → function_size f ≤ 2 ^ 24 → AllInsns IsNear (selected_blocks f.params f.blocks)
