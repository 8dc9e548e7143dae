-- Selection keeps the meaning.
use Rattle.std.specs.Prelude.{◌≡◌, ℕ, ◌<◌, List, All}
use Rattle.mem_model.specs.World.{Rooms}
use Rattle.mem_model.specs.Ending.{Ending, IsDefined}
use Rattle.suifvm_ir.specs.declared.program.VmProgram.{VmProgram}
use Rattle.temp_ir.specs.declared.program.TempProgram.{TempProgram}
use Rattle.suifvm_meaning.specs.Behave.{behave_vm}
use Rattle.alloc_model.specs.Temporaries.{TempsEnd}
use Rattle.selection_laws.specs.Selected.{IsSelected}

-- a run over temporaries ends so, and in no other way
pub record EndsSo (rooms : Rooms) (program : TempProgram) (input : List ℕ) (turns : ℕ) (e : Ending) : Type 0 where
  pub ends : TempsEnd rooms program input turns e
  pub only : (f : Ending) → TempsEnd rooms program input turns f → f ≡ e

-- For every list of rooms, on every input of bytes: the ending of a program, if it is defined, is that of the selected
-- program, with the same world, so with the same output, turns, input left and peak
abbrev pub SelectionKeeps : VmProgram → TempProgram → Type 0
SelectionKeeps program selected =
    (rooms : Rooms) (input : List ℕ) (turns : ℕ) (e : Ending) → All (λ byte. byte < 256) input →
    behave_vm rooms program input turns e → IsDefined e → EndsSo rooms selected input turns e

abbrev pub SelectedPrograms : Type 0
SelectedPrograms = (program : VmProgram) (selected : TempProgram) → IsSelected program selected →
    SelectionKeeps program selected
