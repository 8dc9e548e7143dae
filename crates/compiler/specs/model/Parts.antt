-- What was made of a text, as far as it was kept.
use Rattle.std.specs.Prelude.{◌≡◌, ℕ, ◌*◌, ◌≤◌, List, Option, Some, length}
use Rattle.std.specs.List.{AllZip}
use Rattle.std.specs.Global.{Vec}
use Rattle.c_tree.specs.declared.declarations.TranslationUnit.{TranslationUnit}
use Rattle.c_typed_tree.specs.declared.units.TypedUnit.{TypedUnit}
use Rattle.c_typed_tree.specs.declared.c_lawful_unit.LawfulUnit.{LawfulUnit}
use Rattle.c_typed_tree.specs.Weight.{unit_weight}
use Rattle.suifvm_ir.specs.declared.program.VmProgram.{VmProgram}
use Rattle.lowering_theorem.specs.Laws.{IsCodeOf}
use Rattle.flow_clean.specs.Programs.{IsProgramWithoutCopiesOf, IsCleanProgramOf, CodeKeeps}
use Rattle.temp_ir.specs.declared.program.TempProgram.{TempProgram}
use Rattle.temp_ir.specs.Programs.{TempFn}
use Rattle.alloc_model.specs.declared.allocation.Allocation.{Allocation}
use Rattle.alloc_rules.specs.Allocations.{AreAllocationsOf}
use Rattle.call_words.specs.declared.compile_options.Allocator.{Allocator}
use Rattle.compiler_front_end.specs.Units.{IsUnitWithin}
use Rattle.compiler.specs.declared.built.AssemblyParts.{AssemblyParts}
use Rattle.compiler.specs.declared.built.Built.{Built}
use Rattle.compiler.specs.declared.built.CodeParts.{CodeParts}
use Rattle.compiler.specs.declared.built.Parts.{Parts}
use Rattle.compiler.specs.declared.built.WantedParts.{WantedParts}
use Rattle.compiler.specs.declared.built.WantedParts.TheVariants.{Everything}
use Rattle.compiler.specs.Made.{Made}
use Rattle.compiler.specs.model.Stages.{IsRewrittenUnit, IsCodeWithin, IsAssemblyOf}

-- a text has this tree, and this is its typed unit, which is within the limits
pub record UnitHasText (tree : TranslationUnit) (u : TypedUnit) : Type 0 where
  pub text : List ℕ
  pub front : IsUnitWithin text tree u

-- ---- what one pass leaves

-- what a pass was given is kept if everything is wanted
abbrev pub IsKept : {A : Type 0} → WantedParts → A → Option A → Type 0
IsKept wanted value kept = wanted ≡ Everything → kept ≡ Some value

-- a program is the clean one of one whose instructions read no copies, which is made of another one, and is kept if
-- everything is wanted; a clause for each pass, and what all of them keep
pub record IsCleanCode (lowered : VmProgram) (wanted : WantedParts) (given : Option VmProgram)
    (vm : VmProgram) : Type 0 where
  pub copied : VmProgram
  pub without_copies : IsProgramWithoutCopiesOf lowered copied
  pub clean : IsCleanProgramOf copied vm
  pub keeps : CodeKeeps lowered vm
  pub kept : IsKept wanted copied given

-- the code of a unit over temporaries, by way of what each pass made of what the one before it gave; that is kept if
-- everything is wanted
pub record AreCodePartsOf (typed : LawfulUnit) (wanted : WantedParts) (p : CodeParts) : Type 0 where
  pub rewritten : LawfulUnit
  pub lowered : VmProgram
  pub copied : VmProgram
  pub vm : VmProgram
  pub is_rewritten : IsRewrittenUnit typed.unit rewritten.unit
  pub is_code : IsCodeOf rewritten.unit lowered
  pub without_copies : IsProgramWithoutCopiesOf lowered copied
  pub clean : IsCleanProgramOf copied vm
  pub within : IsCodeWithin typed.unit vm p.temps
  pub typed_kept : IsKept wanted typed p.typed
  pub rewritten_kept : IsKept wanted rewritten p.rewritten
  pub copied_kept : IsKept wanted copied p.copied
  pub vm_kept : IsKept wanted vm p.vm

-- there are allocations that an allocator gives for the functions of a program, of which this is the assembly; the
-- program and they are kept if everything is wanted
pub record AreAssemblyPartsOf (allocates : TempFn → Allocation → Type 0) (temps : TempProgram) (wanted : WantedParts)
    (p : AssemblyParts) : Type 0 where
  pub allocations : Vec Allocation
  pub are : AreAllocationsOf temps.functions allocations.items
  pub by : AllZip allocates temps.functions allocations.items
  pub assembly : IsAssemblyOf temps allocations.items p.asm
  pub program : IsKept wanted temps p.temps
  pub kept : IsKept wanted allocations p.allocations

-- ---- all parts

-- all parts of what was made
abbrev pub parts_of_built : Built → Parts
parts_of_built b = record {
  unit = Some b.unit;
  typed = Some b.typed;
  rewritten = Some b.rewritten;
  copied = Some b.copied;
  vm = Some b.vm;
  temps = Some b.temps;
  allocations = Some b.allocations;
  asm = Some b.asm;
  image = b.image;
}

-- nothing was let go
pub record PartsAreWhole (p : Parts) : Type 0 where
  pub built : Built
  pub are : p ≡ parts_of_built built

-- this is left of what was made of a text by an allocator: its image, which has few words, and all else if everything
-- is wanted
pub record ArePartsOf (text : List ℕ) (allocator : Allocator) (wanted : WantedParts) (p : Parts) : Type 0 where
  pub built : Built
  pub made : Made text allocator built
  pub image : p.image ≡ built.image
  pub short : length p.image.words ≤ 2048 * unit_weight built.typed.unit
  pub all : wanted ≡ Everything → p ≡ parts_of_built built
