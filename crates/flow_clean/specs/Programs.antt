-- Programs whose functions are clean, and that they do what the programs do of which they were made.
use Rattle.std.specs.Prelude.{◌≡◌, ℕ, ◌≤◌, List}
use Rattle.std.specs.List.{AllZip}
use Rattle.mem_model.specs.World.{Rooms}
use Rattle.mem_model.specs.Ending.{Ending, IsDefined}
use Rattle.pass_core.specs.Functions.{AllInsns}
use Rattle.suifvm_ir.specs.declared.program.VmProgram.{VmProgram}
use Rattle.suifvm_ir.specs.Programs.{VmFunction, function_size, arguments_of}
use Rattle.suifvm_ir.specs.Cost.{cost}
use Rattle.suifvm_meaning.specs.Behave.{behave_vm}
use Rattle.flow_clean.specs.Copies.{IsWithoutCopiesOf}
use Rattle.flow_clean.specs.Dead.{MeasuresFall}
use Rattle.flow_clean.specs.Clean.{IsCleanOf}

-- a program whose instructions read no copies: each function is made of the one with its number, and takes no more
pub record IsProgramWithoutCopiesOf (before after : VmProgram) : Type 0 where
  pub functions : AllZip IsWithoutCopiesOf before.functions after.functions
  pub measures : AllZip MeasuresFall before.functions after.functions
  pub globals : after.globals ≡ before.globals

-- a clean program of one whose instructions read no copies
pub record IsCleanProgramOf (copied clean : VmProgram) : Type 0 where
  pub functions : AllZip IsCleanOf copied.functions clean.functions
  pub measures : AllZip MeasuresFall copied.functions clean.functions
  pub globals : clean.globals ≡ copied.globals

-- whatever a program does where that has a meaning, another does, in the same world
abbrev pub DoesAllOf : (after before : VmProgram) → Type 0
DoesAllOf after before =
    (rooms : Rooms) (input : List ℕ) (turns : ℕ) (e : Ending) → IsDefined e →
    behave_vm rooms before input turns e → behave_vm rooms after input turns e

-- ---- what every pass over such code keeps

-- a function is made of another one: its name, parameters, registers and memory locals are those of that one, it costs
-- no more and is no larger, and as few arguments bound its calls
pub record FunctionKeeps (before after : VmFunction) : Type 0 where
  pub name : after.name ≡ before.name
  pub params : after.params ≡ before.params
  pub temps : after.temps ≡ before.temps
  pub objects : after.objects ≡ before.objects
  pub cost : cost after ≤ cost before
  pub size : function_size after ≤ function_size before
  pub arguments : (most : ℕ) → AllInsns (λ i. arguments_of i ≤ most) before.blocks →
      AllInsns (λ i. arguments_of i ≤ most) after.blocks

-- Code is made of other code: its functions by number, with the same objects of static storage, and it does all that
-- the other does. Nothing else is asked of a pass over such code
pub record CodeKeeps (before after : VmProgram) : Type 0 where
  pub functions : AllZip FunctionKeeps before.functions after.functions
  pub globals : after.globals ≡ before.globals
  pub does : DoesAllOf after before

-- two passes one after the other
abbrev pub CodeIsKeptAlong : Type 0
CodeIsKeptAlong =
    (first second third : VmProgram) → CodeKeeps first second → CodeKeeps second third → CodeKeeps first third

abbrev pub CopiesKeepCode : Type 0
CopiesKeepCode = (before after : VmProgram) → IsProgramWithoutCopiesOf before after → CodeKeeps before after

abbrev pub CleaningKeepsCode : Type 0
CleaningKeepsCode = (copied clean : VmProgram) → IsCleanProgramOf copied clean → CodeKeeps copied clean
