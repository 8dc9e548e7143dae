-- The passes over the blocks of a selected program keep what selection keeps.
use Rattle.std.specs.Prelude.{ℕ}
use Rattle.suifvm_ir.specs.declared.program.VmProgram.{VmProgram}
use Rattle.temp_ir.specs.declared.program.TempProgram.{TempProgram}
use Rattle.selection_laws.specs.Laws.{SelectionKeeps}
use Rattle.alpha_select.specs.Selection.{AreSelected}
use Rattle.block_passes.specs.Keeps.{Keeps}

abbrev pub PassesKeepSelections : Type 0
PassesKeepSelections =
    (splits : ℕ) (program : VmProgram) (selected after : TempProgram) →
    AreSelected program.functions selected.functions → Keeps splits selected after → SelectionKeeps program selected →
    SelectionKeeps program after
