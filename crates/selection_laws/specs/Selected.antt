-- When a program over temporaries is the selected one of a program over virtual registers.
use Rattle.std.specs.Prelude.{◌≡◌, map, All}
use Rattle.pass_core.specs.Functions.{AllInsns}
use Rattle.suifvm_ir.specs.Programs.{VmFunction}
use Rattle.suifvm_ir.specs.declared.program.VmProgram.{VmProgram}
use Rattle.temp_ir.specs.declared.program.TempProgram.{TempProgram}
use Rattle.alloc_model.specs.Temporaries.{TemporaryCode, code_of}
use Rattle.suifvm_zero_branches.specs.Tests.{tested_block}
use Rattle.selection_code.specs.Fields.{HasFields}
use Rattle.selection_code.specs.Functions.{selected_blocks}

-- the code of a function, in which branches on what a comparison with zero found test the value
abbrev pub selected_code : VmFunction → TemporaryCode
selected_code f =
    record { sizes = map (λ o. o.size) f.objects; blocks = selected_blocks f.params (map tested_block f.blocks) }

pub record IsSelected (program : VmProgram) (selected : TempProgram) : Type 0 where
  pub code : map code_of selected.functions ≡ map selected_code program.functions
  pub names : map (λ f. f.name) selected.functions ≡ map (λ f. f.name) program.functions
  pub globals : selected.globals ≡ program.globals
  pub fields : All (λ (f : VmFunction). AllInsns HasFields f.blocks) program.functions
