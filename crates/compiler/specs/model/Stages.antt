-- What one stage of the compiler gives to the next.
use Rattle.std.specs.Prelude.{◌≡◌, ℕ, ◌+◌, ◌*◌, ◌^◌, ◌<◌, ◌≤◌, Bool, IsTrue, List, All, length, sum_by}
use Rattle.std.specs.List.{AllZip}
use Rattle.alpha_items.specs.Assembly.{Assembly, IsWhole}
use Rattle.alpha_items.specs.Items.{is_name}
use Rattle.alpha_items.specs.Layout.{text_words}
use Rattle.alpha_items.specs.declared.final_fn.FinalFn.{FinalFn}
use Rattle.alpha_asm.specs.Fault.{HasFewWords}
use Rattle.mem_objects.specs.declared.TheConstants.{MOST_DATA}
use Rattle.mem_objects.specs.Globals.{AreLawful}
use Rattle.mem_objects.specs.Layout.{data_end}
use Rattle.c_tree.specs.declared.declarations.TranslationUnit.{TranslationUnit}
use Rattle.c_typed_tree.specs.declared.units.TypedUnit.{TypedUnit}
use Rattle.c_typed_tree.specs.declared.c_lawful_unit.LawfulUnit.{LawfulUnit}
use Rattle.c_typed_tree.specs.Weight.{unit_weight}
use Rattle.c_semantics.specs.Behaves.{rooms_of}
use Rattle.c_semantics.specs.Refines.{UnitRefines}
use Rattle.c_rewrite.specs.Rewritten.{IsRewritten}
use Rattle.suifvm_ir.specs.declared.program.VmProgram.{VmProgram}
use Rattle.pass_core.specs.Functions.{count_of}
use Rattle.suifvm_ir.specs.Programs.{VmFunction, program_size}
use Rattle.flow_clean.specs.Programs.{CodeKeeps}
use Rattle.lowering.specs.Lowered.{AllStandFor}
use Rattle.lowering_theorem.specs.Laws.{IsCodeOf, CodeRunsAs}
use Rattle.temp_ir.specs.declared.program.TempProgram.{TempProgram}
use Rattle.temp_ir.specs.Programs.{TempFn}
use Rattle.alpha_select.specs.Selection.{AreSelected, CostLittle}
use Rattle.selection_laws.specs.Laws.{SelectionKeeps}
use Rattle.block_passes.specs.Clauses.{IsReached, IsSplit}
use Rattle.block_passes.specs.Keeps.{Keeps}
use Rattle.alloc_model.specs.declared.allocation.Allocation.{Allocation}
use Rattle.alloc_rules.specs.Allocations.{AreAllocationsOf}
use Rattle.image_assembly_laws.specs.allocation_laws.Laws.{HasFrame}
use Rattle.image_assembly.specs.Assemblies.{whole_assembly}
use Rattle.image_assembly.specs.Layouts.{end_label, FitsProgram, FunctionsAreLaidOut}
use Rattle.image_assembly.specs.Programs.{IsAllocated}
use Rattle.image_assembly_laws.specs.ProgramAssembly.{program_assembly}
use Rattle.call_words.specs.declared.compile_options.Allocator.{Allocator}
use Rattle.compiler_theorem.specs.Correct.{IsCorrectImage}
use Rattle.compiler_theorem.specs.RefinedCode.{CodeRefines}
use Rattle.compiler_front_end.specs.Units.{IsUnitWithin}
use Rattle.compiler.specs.declared.built.Built.{Built}
use Rattle.compiler.specs.Made.{Made, IsCalledAs}

-- ---- the code of a unit

-- Code over virtual registers does what a unit does, within the bounds that selection asks for: whatever passes there
-- are over such code, this is what they keep.
pub record DoesAsUnit (u : TypedUnit) (vm : VmProgram) : Type 0 where
  pub functions : AllStandFor u.structs u.functions vm.functions
  pub globals : vm.globals ≡ u.globals
  pub runs : CodeRefines u vm
  pub size : program_size vm.functions ≤ 2 ^ 24
  pub registers : All (λ (f : VmFunction). f.temps ≤ 2 ^ 24) vm.functions

-- what rewriting gives of a unit
pub record IsRewrittenUnit (u rewritten : TypedUnit) : Type 0 where
  pub is : IsRewritten u rewritten
  pub refines : UnitRefines rewritten u

-- what lowering gives of a unit
pub record IsLoweredUnit (u : TypedUnit) (vm : VmProgram) : Type 0 where
  pub code : IsCodeOf u vm
  pub functions : AllStandFor u.structs u.functions vm.functions
  pub runs : CodeRunsAs u vm
  pub size : program_size vm.functions ≤ 2 ^ 24
  pub registers : All (λ (f : VmFunction). f.temps ≤ 2 ^ 24) vm.functions

-- the code of a rewritten unit does what the unit does
abbrev pub RewrittenCodeDoesAsUnit : Type 0
RewrittenCodeDoesAsUnit =
    (u rewritten : TypedUnit) (vm : VmProgram) → IsRewrittenUnit u rewritten → IsLoweredUnit rewritten vm →
    DoesAsUnit u vm

-- code that passes made of such code, and that keeps what they have to keep, does what the unit does
abbrev pub KeptCodeDoesAsUnit : Type 0
KeptCodeDoesAsUnit =
    (u : TypedUnit) (before after : VmProgram) → DoesAsUnit u before → CodeKeeps before after → DoesAsUnit u after

-- what selection gives of code over virtual registers
pub record IsSelectedProgram (vm : VmProgram) (selected : TempProgram) : Type 0 where
  pub functions : AreSelected vm.functions selected.functions
  pub globals : selected.globals ≡ vm.globals
  pub keeps : SelectionKeeps vm selected
  pub costs : CostLittle vm.functions selected.functions
  pub few : sum_by (λ (f : TempFn). 5 * length f.blocks + count_of f.blocks) selected.functions < 2 ^ 30

-- what the passes over blocks give of the selected code
pub record ArePassed (selected temps : TempProgram) : Type 0 where
  pub keeps : Keeps 1 selected temps
  pub reached : All IsReached temps.functions
  pub split : All IsSplit temps.functions
  pub labels : sum_by (λ (f : TempFn). length f.blocks + 2) temps.functions < 2 ^ 30

-- so the code over temporaries is that of a unit
pub record IsCodeWithin (u : TypedUnit) (vm : VmProgram) (temps : TempProgram) : Type 0 where
  pub does : DoesAsUnit u vm
  pub selected : TempProgram
  pub selection : IsSelectedProgram vm selected
  pub passed : ArePassed selected temps

-- ---- the assembly

-- what is asked of allocations of the functions of a program, so that they can be laid out and gathered
pub record CanBeLaidOut (temps : TempProgram) (allocations : List Allocation) : Type 0 where
  pub some : 1 ≤ length allocations
  pub few : length allocations < 2 ^ 31
  pub fit : All (FitsProgram (length allocations) temps.globals) allocations
  pub names : All (λ (a : Allocation). IsTrue (is_name a.func.name)) allocations
  pub labels : end_label allocations < 2 ^ 32
  pub lawful : AreLawful temps.globals
  pub data_size : data_end temps.globals ≤ MOST_DATA

-- a program can be assembled: whatever allocations its functions get, they can be laid out and gathered
pub record ProgramCanBeAssembled (temps : TempProgram) : Type 0 where
  pub frames : All HasFrame temps.functions
  pub names : All (λ (f : TempFn). IsTrue (is_name f.name)) temps.functions
  pub labels : sum_by (λ (f : TempFn). length f.blocks + 2) temps.functions < 2 ^ 30
  pub data_size : data_end temps.globals ≤ MOST_DATA
  pub laid_out : (allocations : List Allocation) → AreAllocationsOf temps.functions allocations →
      CanBeLaidOut temps allocations

abbrev pub CodeCanBeAssembled : Type 0
CodeCanBeAssembled =
    (text : List ℕ) (tree : TranslationUnit) (u : LawfulUnit) (vm : VmProgram) (temps : TempProgram) →
    IsUnitWithin text tree u.unit → IsCodeWithin u.unit vm temps → ProgramCanBeAssembled temps

-- an assembly is gathered of functions that are laid out by these allocations, and is whole
pub record IsAssemblyOf (temps : TempProgram) (allocations : List Allocation) (asm : Assembly) : Type 0 where
  pub finals : List FinalFn
  pub laid_out : FunctionsAreLaidOut temps.globals allocations finals
  pub is_gathered : asm ≡ whole_assembly finals temps.globals
  pub whole : IsWhole asm

-- what is known of the code and the assembly of a unit
pub record IsAssemblyOfUnit (u : TypedUnit) (vm : VmProgram) (temps : TempProgram) (allocations : List Allocation)
    (asm : Assembly) : Type 0 where
  pub selection : SelectionKeeps vm temps
  pub called : AllZip IsCalledAs vm.functions temps.functions
  pub allocated : IsAllocated temps allocations (rooms_of u)
  pub exact : asm ≡ program_assembly temps allocations
  pub few_words : HasFewWords asm
  pub short : (far : List Bool) → text_words asm.items far ≤ 2048 * unit_weight u

abbrev pub AssembliesAreMade : Type 0
AssembliesAreMade =
    (text : List ℕ) (tree : TranslationUnit) (u : LawfulUnit) (vm : VmProgram) (temps : TempProgram)
    (allocations : List Allocation) (asm : Assembly) → IsUnitWithin text tree u.unit → IsCodeWithin u.unit vm temps →
    AreAllocationsOf temps.functions allocations → IsAssemblyOf temps allocations asm →
    IsAssemblyOfUnit u.unit vm temps allocations asm

-- ---- the image

-- what was made of a text, with so few words, has an image that is right for the text
abbrev pub ImagesAreCorrect : Type 0
ImagesAreCorrect =
    (text : List ℕ) (allocator : Allocator) (b : Built) → Made text allocator b →
    length b.image.words ≤ 2048 * unit_weight b.typed.unit → IsCorrectImage text b.image
