-- The law of programs over virtual registers.
use Rattle.std.specs.Prelude.{ℕ, List}
use Rattle.mem_model.specs.World.{Rooms}
use Rattle.mem_model.specs.Ending.{Ending}
use Rattle.suifvm_ir.specs.declared.program.VmProgram.{VmProgram}
use Rattle.suifvm_meaning.specs.Behave.{behave_vm}

-- every run ends
abbrev pub ProgramsEnd : Type 0
ProgramsEnd =
    (rooms : Rooms) (program : VmProgram) (input : List ℕ) (turns : ℕ) →
    (e : Ending) × behave_vm rooms program input turns e
