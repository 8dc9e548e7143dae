-- The assembly of functions that are laid out is whole, and is exactly that of their program, which has its items.
use Rattle.std.specs.Prelude.{◌≡◌, ℕ, suc, ◌+◌, ◌≤◌, All, IsTrue, List, [], ◌∷◌, map, take, drop, length, sum_by, slice_get, slice_index_or, Some}
use Rattle.alpha_items.specs.declared.item.AsmItem.TheVariants.{Name}
use Rattle.alpha_items.specs.declared.final_fn.FinalFn.{FinalFn}
use Rattle.alpha_items.specs.Items.{is_name}
use Rattle.alpha_items.specs.Assembly.{IsWhole}
use Rattle.alpha_rt.specs.Items.{all_items}
use Rattle.mem_objects.specs.declared.DataObject.{DataObject}
use Rattle.mem_objects.specs.declared.TheConstants.{MOST_DATA}
use Rattle.mem_objects.specs.Globals.{AreLawful}
use Rattle.mem_objects.specs.Layout.{data_end}
use Rattle.pass_core.specs.Functions.{AllInsns}
use Rattle.mem_model.specs.World.{Rooms, room_of}
use Rattle.cfg_edges.specs.Critical.{NoneCritical}
use Rattle.temp_ir.specs.declared.program.TempProgram.{TempProgram}
use Rattle.temp_ir.specs.Programs.{TempFn}
use Rattle.temp_ir.specs.Insns.{targets_of, flows_on_of}
use Rattle.alpha_rt.specs.Calls.{scratch_size}
use Rattle.alloc_model.specs.Temporaries.{code_of, main_of}
use Rattle.frame_memory.specs.flat_frames.Shapes.{frame_size}
use Rattle.frame_bounds.specs.Shapes.{shape_of}
use Rattle.alloc_model.specs.declared.allocation.Allocation.{Allocation}
use Rattle.alloc_model.specs.Places.{Plan}
use Rattle.frame_steps.specs.instruction_items.Items.{ItemSetting}
use Rattle.frame_bounds.specs.Near.{IsNear}
use Rattle.frame_bounds.specs.Settings.{setting_of}
use Rattle.image_assembly.specs.Ranges.{HasSmallNumbers}
use Rattle.image_assembly.specs.Programs.{ProgramPlacement, HasItemsOf, IsAllocated, plans_of, start_items}
use Rattle.image_assembly.specs.Assemblies.{whole_assembly}
use Rattle.image_assembly.specs.Layouts.{first_label, label_count, FitsProgram, FunctionsAreLaidOut}
use Rattle.image_assembly_laws.specs.ProgramAssembly.{functions_items, program_assembly}

-- an allocation of one of so many functions fits, its name is one, and the numbers in its instructions have their
-- ranges
pub record CanBeAssembled (functions : ℕ) (globals : List DataObject) (a : Allocation) : Type 0 where
  pub fit : FitsProgram functions globals a
  pub name : IsTrue (is_name a.func.name)
  pub numbers : AllInsns HasSmallNumbers a.func.blocks

-- so the assembly of some such functions is whole
abbrev pub AssembliesAreWhole : Type 0
AssembliesAreWhole =
    (globals : List DataObject) (allocations : List Allocation) (finals : List FinalFn) → ∥ AreLawful globals ∥₁ →
    data_end globals ≤ MOST_DATA → 1 ≤ length allocations
    → All (CanBeAssembled (length allocations) globals) allocations →
    FunctionsAreLaidOut globals allocations finals → IsWhole (whole_assembly finals globals)

-- and it is exactly that of the program whose functions these are, where each argument place that they name is one that
-- can be told from others
abbrev pub AssembliesAreExact : Type 0
AssembliesAreExact =
    (program : TempProgram) (allocations : List Allocation) (finals : List FinalFn) →
    map (λ f. f.name) program.functions ≡ map (λ a. a.func.name) allocations →
    All (λ a. AllInsns IsNear a.func.blocks) allocations → FunctionsAreLaidOut program.globals allocations finals →
    whole_assembly finals program.globals ≡ program_assembly program allocations

-- ---- where the items of a program stand in it

-- what there is where no function is
abbrev pub no_plan : Plan
no_plan = record {
  function = record { sizes = []; blocks = [] };
  params = 0;
  temps = 0;
  top = [];
  bottom = [];
  at = [];
  regs = [];
  edges = [];
}

-- the first label behind so many of the functions
abbrev pub label_behind : List Allocation → (functions : ℕ) → ℕ
label_behind allocations functions = first_label (length allocations) + sum_by label_count (take functions allocations)

abbrev pub setting_at : List DataObject → List Allocation → (function : ℕ) → ItemSetting
setting_at globals allocations f =
    setting_of (slice_index_or (plans_of allocations) f no_plan) globals (label_behind allocations f)

-- a name stands in front of each function
abbrev pub placement_of : TempProgram → List Allocation → ProgramPlacement
placement_of program allocations = record {
  setting = setting_at program.globals allocations;
  front = λ f. start_items (main_of program.functions)
      (functions_items program.globals 0 (first_label (length allocations)) (take f allocations)
      (Name (slice_index_or (map (λ a. a.func.name) allocations) f []) ∷ []));
  behind = λ f.
      functions_items program.globals (suc f) (label_behind allocations (suc f)) (drop (suc f) allocations) all_items;
  after_start = functions_items program.globals 0 (first_label (length allocations)) allocations all_items;
  before_routines = start_items (main_of program.functions)
      (functions_items program.globals 0 (first_label (length allocations)) allocations []);
  behind_routines = [];
}

-- the assembly of a program has the items and the data of it
abbrev pub AssembliesHavePrograms : Type 0
AssembliesHavePrograms =
    (program : TempProgram) (allocations : List Allocation) →
    HasItemsOf (program_assembly program allocations) program (plans_of allocations) (placement_of program allocations)

-- ---- that a program is allocated

-- so it is where each allocation has the code of its function and fits the program, no edge has to be split, and the
-- rooms hold the frames with the bytes of a division routine
abbrev pub ProgramsAreAllocated : Type 0
ProgramsAreAllocated =
    (program : TempProgram) (allocations : List Allocation) (rooms : Rooms) →
    map code_of program.functions ≡ map (λ a. code_of a.func) allocations →
    All (FitsProgram (length allocations) program.globals) allocations →
    ((f : ℕ) (x : TempFn) → slice_get program.functions f ≡ Some x → NoneCritical targets_of flows_on_of x.blocks) →
    ((f : ℕ) (a : Plan) → slice_get (plans_of allocations) f ≡ Some a →
    frame_size (shape_of a) + scratch_size ≤ room_of rooms f) →
    IsAllocated program allocations rooms
