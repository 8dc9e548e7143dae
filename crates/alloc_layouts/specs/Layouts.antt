-- The assembly of a program by what an allocator gives for its functions.
use Rattle.std.specs.Prelude.{◌≡◌, List}
use Rattle.std.specs.List.{AllZip}
use Rattle.alpha_items.specs.Assembly.{Assembly, IsWhole}
use Rattle.alpha_items.specs.declared.final_fn.FinalFn.{FinalFn}
use Rattle.temp_ir.specs.declared.program.TempProgram.{TempProgram}
use Rattle.temp_ir.specs.Programs.{TempFn}
use Rattle.alloc_model.specs.declared.allocation.Allocation.{Allocation}
use Rattle.image_assembly.specs.Layouts.{FunctionsAreLaidOut}
use Rattle.image_assembly.specs.Assemblies.{whole_assembly}

-- there are allocations that an allocator gives, one for each function, and functions that are laid out by them, of
-- which the assembly is gathered; and it is whole
pub record IsAssemblyBy (gives : TempFn → Allocation → Type 0) (program : TempProgram) (asm : Assembly) : Type 0 where
  pub allocations : List Allocation
  pub are : AllZip gives program.functions allocations
  pub finals : List FinalFn
  pub laid_out : FunctionsAreLaidOut program.globals allocations finals
  pub is_gathered : asm ≡ whole_assembly finals program.globals
  pub whole : IsWhole asm
