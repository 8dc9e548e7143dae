-- What is made of a text, pass by pass.
use Rattle.std.specs.Prelude.{◌≡◌, ℕ, List, All}
use Rattle.std.specs.List.{AllZip}
use Rattle.alpha_isa.specs.Program.{IsLawful}
use Rattle.alpha_items.specs.Assembly.{IsWhole}
use Rattle.alpha_items.specs.Words.{Words}
use Rattle.c_semantics.specs.Behaves.{rooms_of}
use Rattle.suifvm_ir.specs.declared.program.VmProgram.{VmProgram}
use Rattle.suifvm_ir.specs.Programs.{VmFunction}
use Rattle.c_semantics.specs.Refines.{UnitRefines}
use Rattle.c_rewrite.specs.Rewritten.{IsRewritten}
use Rattle.lowering_theorem.specs.Laws.{IsCodeOf}
use Rattle.flow_clean.specs.Programs.{IsProgramWithoutCopiesOf, IsCleanProgramOf}
use Rattle.compiler_theorem.specs.RefinedCode.{CodeRefines}
use Rattle.temp_ir.specs.Programs.{TempFn}
use Rattle.selection_laws.specs.Laws.{SelectionKeeps}
use Rattle.block_passes.specs.Clauses.{IsReached, IsSplit}
use Rattle.alloc_model.specs.declared.allocation.Allocation.{Allocation}
use Rattle.alloc_rules.specs.Allocations.{IsAllocationOf, AreAllocationsOf}
use Rattle.alloc_plain.specs.Plain.{IsPlainAllocationOf}
use Rattle.image_assembly.specs.Programs.{IsAllocated}
use Rattle.image_assembly_laws.specs.ProgramAssembly.{program_assembly}
use Rattle.call_words.specs.declared.compile_options.Allocator.{Allocator}
use Rattle.call_words.specs.declared.compile_options.Allocator.TheVariants.{Plain, Binpack}
use Rattle.compiler_front_end.specs.Units.{IsUnitWithin}
use Rattle.compiler.specs.declared.built.Built.{Built}

-- a function over temporaries has the name and as many parameters as one over virtual registers
pub record IsCalledAs (f : VmFunction) (g : TempFn) : Type 0 where
  pub name : g.name ≡ f.name
  pub params : g.params ≡ f.params

-- what an allocator gives for a function: `binpack` an allocation of it, of which no more is said, and `plain` the one
-- in which every temporary lives in its slot
abbrev pub gives : Allocator → TempFn → Allocation → Type 0
gives Plain = IsPlainAllocationOf
gives Binpack = IsAllocationOf

-- the allocations are those of an allocator
abbrev pub AllocatesBy : Allocator → List TempFn → List Allocation → Type 0
AllocatesBy allocator functions allocations = AllZip (gives allocator) functions allocations

-- This was made of a text by an allocator.
pub record Made (text : List ℕ) (allocator : Allocator) (b : Built) : Type 0 where
  -- the tree of the text, and its typed unit, which is lawful and within the limits
  pub front : IsUnitWithin text b.unit b.typed.unit
  -- the rewritten unit: each outermost expression is what the three rules make of it, and nothing else changed. It
  -- refines the typed unit
  pub rewritten : IsRewritten b.typed.unit b.rewritten.unit
  pub refines : UnitRefines b.rewritten.unit b.typed.unit
  -- the code over virtual registers: each function of what lowering gives is that of the rewritten unit's with its
  -- number; then instructions read origins in place of copies, and then the code is clean. It runs as the typed unit,
  -- with a peak that is not above
  pub lowered : VmProgram
  pub code : IsCodeOf b.rewritten.unit lowered
  pub copied : IsProgramWithoutCopiesOf lowered b.copied
  pub clean : IsCleanProgramOf b.copied b.vm
  pub code_runs : CodeRefines b.typed.unit b.vm
  -- the code over temporaries: each function is that of the code over virtual registers with its number
  pub called : AllZip IsCalledAs b.vm.functions b.temps.functions
  pub selection : SelectionKeeps b.vm b.temps
  -- what the passes over its blocks are for
  pub reached : All IsReached b.temps.functions
  pub split : All IsSplit b.temps.functions
  -- an allocation of each function, which is faithful and lean and has its journal, as this allocator gives it, in a
  -- frame that fits the room of the typed unit's function
  pub allocations : AreAllocationsOf b.temps.functions b.allocations.items
  pub by : AllocatesBy allocator b.temps.functions b.allocations.items
  pub allocated : IsAllocated b.temps b.allocations.items (rooms_of b.typed.unit)
  -- the assembly, exactly: the start piece, each function behind its name, the division routines, and the data
  pub whole : IsWhole b.asm
  pub exact : b.asm ≡ program_assembly b.temps b.allocations.items
  -- the image
  pub words : Words b.asm b.image
  pub lawful : IsLawful b.image
