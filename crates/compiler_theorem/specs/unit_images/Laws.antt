-- An image that is made of a unit is the same as the unit (C99 5.1.2.3).
use Rattle.std.specs.Prelude.{ℕ, ◌≤◌, List}
use Rattle.alpha_isa.specs.Program.{Program, IsLawful}
use Rattle.alpha_isa.specs.Behave.{IsStack}
use Rattle.alpha_items.specs.Assembly.{Assembly, IsWhole}
use Rattle.alpha_items.specs.Words.{Words}
use Rattle.mem_model.specs.World.{Rooms}
use Rattle.mem_model.specs.Ending.{ending_peak, IsDefined}
use Rattle.suifvm_ir.specs.declared.program.VmProgram.{VmProgram}
use Rattle.temp_ir.specs.declared.program.TempProgram.{TempProgram}
use Rattle.alloc_model.specs.declared.allocation.Allocation.{Allocation}
use Rattle.mem_model.specs.Bytes.{AreBytes}
use Rattle.selection_laws.specs.Laws.{SelectionKeeps}
use Rattle.image_theorem.specs.same_runs.Programs.{IsAllocated, HasItemsOf, ProgramPlacement, plans_of}
use Rattle.image_theorem.specs.same_runs.Same.{IsSame}
use Rattle.c_typed_tree.specs.declared.units.TypedUnit.{TypedUnit}
use Rattle.c_typed_tree.specs.Lawful.{IsTypedUnit}
use Rattle.c_semantics.specs.Behaves.{run_main}
use Rattle.compiler_theorem.specs.RefinedCode.{CodeRefines}

-- what stands between a unit and an image: a program over virtual registers that refines the unit, the one over
-- temporaries that does as that does, right allocations of its functions in these rooms, and the assembly with their
-- items
pub record IsMadeOf (u : TypedUnit) (rooms : Rooms) (image : Program) : Type 0 where
  pub code : VmProgram
  pub runs : CodeRefines u code
  pub selected : TempProgram
  pub keeps : SelectionKeeps code selected
  pub allocations : List Allocation
  pub allocated : IsAllocated selected allocations rooms
  pub assembly : Assembly
  pub whole : IsWhole assembly
  pub placing : ProgramPlacement
  pub items : HasItemsOf assembly selected (plans_of allocations) placing
  pub words : Words assembly image
  pub lawful : IsLawful image

-- no run on the input is undefined, and each has room on the stack
pub record InputIsGood (u : TypedUnit) (rooms : Rooms) (stack : ℕ) (input : List ℕ) : Type 0 where
  pub defined : (turns : ℕ) → IsDefined (run_main u rooms input turns)
  pub room : (turns : ℕ) → ending_peak (run_main u rooms input turns) ≤ stack

abbrev pub UnitsAreSame : Type 0
UnitsAreSame =
    (u : TypedUnit) (rooms : Rooms) (image : Program) → IsTypedUnit u → IsMadeOf u rooms image →
    (stack : ℕ) → IsStack stack → (input : List ℕ) → AreBytes input → InputIsGood u rooms stack input →
    IsSame image stack input (λ turns. run_main u rooms input turns)
