-- What allocations of the functions of a program have, one for each, whatever allocator made them.
use Rattle.std.specs.Prelude.{◌≡◌, ℕ, ◌+◌, ◌^◌, ◌<◌, ◌≤◌, All, IsTrue, List, map, length, sum_by, slice_get, Some}
use Rattle.alpha_items.specs.declared.final_fn.FinalFn.{FinalFn}
use Rattle.alpha_items.specs.Items.{is_name}
use Rattle.mem_objects.specs.declared.DataObject.{DataObject}
use Rattle.mem_objects.specs.declared.TheConstants.{MOST_DATA}
use Rattle.pass_core.specs.Functions.{AllInsns}
use Rattle.temp_ir.specs.declared.program.TempProgram.{TempProgram}
use Rattle.temp_ir.specs.Programs.{TempFn}
use Rattle.alloc_model.specs.declared.allocation.Allocation.{Allocation}
use Rattle.alloc_model.specs.Temporaries.{code_of}
use Rattle.frame_memory.specs.flat_frames.Shapes.{objects_size}
use Rattle.image_assembly_laws.specs.Near.{IsNear}
use Rattle.image_assembly_laws.specs.Ranges.{HasSmallNumbers}
use Rattle.image_assembly_laws.specs.Layouts.{end_label, FitsProgram, FunctionsAreLaidOut}
use Rattle.image_assembly_laws.specs.Laws.{CanBeAssembled}
use Rattle.alloc_rules.specs.Allocations.{IsAllocationOf, AreAllocationsOf}

-- a function has a frame: few parameters and temporaries, and no more bytes of objects than data may have
pub record HasFrame (f : TempFn) : Type 0 where
  pub params : f.params ≤ 2 ^ 24
  pub temps : f.temps ≤ 2 ^ 24
  pub objects : objects_size (map (λ o. o.size) f.objects) ≤ MOST_DATA

-- ---- by number

-- an allocation is one of the function with a number
pub record IsAllocationAt (functions : List TempFn) (number : ℕ) (a : Allocation) : Type 0 where
  pub function : TempFn
  pub there : slice_get functions number ≡ Some function
  pub is_allocation : IsAllocationOf function a

-- the allocation with a number is one of the function with that number
abbrev pub AllocationsStandByNumber : Type 0
AllocationsStandByNumber =
    (functions : List TempFn) (allocations : List Allocation) → AreAllocationsOf functions allocations →
    (number : ℕ) (a : Allocation) → slice_get allocations number ≡ Some a → IsAllocationAt functions number a

-- ---- that they fit

-- allocations have the names and the code of a program, there is one, and each fits the program
pub record FitTheirProgram (program : TempProgram) (allocations : List Allocation) : Type 0 where
  pub some : 1 ≤ length allocations
  pub names : map (λ f. f.name) program.functions ≡ map (λ a. a.func.name) allocations
  pub code : map code_of program.functions ≡ map (λ a. code_of a.func) allocations
  pub fit : All (FitsProgram (length allocations) program.globals) allocations

abbrev pub AllocationsFit : Type 0
AllocationsFit =
    (program : TempProgram) (allocations : List Allocation) → AreAllocationsOf program.functions allocations →
    All HasFrame program.functions → FitTheirProgram program allocations

-- ---- labels

-- the labels of the functions are below 2 ^ 32, so there are fewer than 2 ^ 31 functions
pub record HaveFewLabels (allocations : List Allocation) : Type 0 where
  pub labels : end_label allocations < 2 ^ 32
  pub functions : length allocations < 2 ^ 31

-- each function takes a label for its entry, one for each block, and one for its exit part
abbrev pub LabelsAreFew : Type 0
LabelsAreFew =
    (program : TempProgram) (allocations : List Allocation) → AreAllocationsOf program.functions allocations →
    sum_by (λ (f : TempFn). length f.blocks + 2) program.functions < 2 ^ 30 → HaveFewLabels allocations

-- ---- what else is asked of functions that are assembled

-- where the functions have names that can be written, and the numbers in the instructions have the ranges of their
-- types, as they have wherever an allocation is read, the allocations can be assembled
abbrev pub AllocationsCanBeAssembled : Type 0
AllocationsCanBeAssembled =
    (program : TempProgram) (allocations : List Allocation) → AreAllocationsOf program.functions allocations →
    All HasFrame program.functions → All (λ (f : TempFn). IsTrue (is_name f.name)) program.functions →
    All (λ (a : Allocation). AllInsns HasSmallNumbers a.func.blocks) allocations →
    All (CanBeAssembled (length allocations) program.globals) allocations

-- the argument places that they name can be told from others, where those of the functions can
abbrev pub AllocationsAreNear : Type 0
AllocationsAreNear =
    (program : TempProgram) (allocations : List Allocation) → AreAllocationsOf program.functions allocations →
    All (λ (f : TempFn). AllInsns IsNear f.blocks) program.functions →
    All (λ (a : Allocation). AllInsns IsNear a.func.blocks) allocations

-- there are as many functions that are laid out as allocations
abbrev pub AsManyAreLaidOut : Type 0
AsManyAreLaidOut =
    (globals : List DataObject) (allocations : List Allocation) (finals : List FinalFn) →
    FunctionsAreLaidOut globals allocations finals → length finals ≡ length allocations
