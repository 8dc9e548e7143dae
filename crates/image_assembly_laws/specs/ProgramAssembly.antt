-- The assembly of a program over temporaries, by an allocation for each of its functions: all that stands in it.
use Rattle.std.specs.Prelude.{ℕ, suc, ◌+◌, List, [], ◌∷◌, length}
use Rattle.alpha_items.specs.declared.item.AsmItem.{AsmItem}
use Rattle.alpha_items.specs.declared.item.AsmItem.TheVariants.{Name}
use Rattle.alpha_items.specs.Assembly.{Assembly}
use Rattle.alpha_rt.specs.Items.{all_items}
use Rattle.mem_objects.specs.declared.DataObject.{DataObject}
use Rattle.temp_ir.specs.declared.program.TempProgram.{TempProgram}
use Rattle.alloc_model.specs.declared.allocation.Allocation.{Allocation}
use Rattle.alloc_model.specs.Temporaries.{main_of}
use Rattle.alloc_model.specs.Places.{plan_of}
use Rattle.frame_memory.specs.global_data.GlobalBytes.{global_bytes, global_fixes}
use Rattle.frame_steps.specs.function_items.Items.{function_items}
use Rattle.frame_bounds.specs.Settings.{setting_of}
use Rattle.image_assembly.specs.Programs.{start_items}
use Rattle.image_assembly.specs.Layouts.{first_label, label_count}

-- functions in order, by their allocations: of each its name and its items, with the next number, and with labels from
-- the end of those of the one before it; then the rest
abbrev pub functions_items : List DataObject → (number first : ℕ) → List Allocation → (rest : List AsmItem) →
    List AsmItem
functions_items globals number first [] rest = rest
functions_items globals number first (a ∷ allocations) rest =
    Name a.func.name ∷ function_items (plan_of a) (setting_of (plan_of a) globals first) number
    (functions_items globals (suc number) (first + label_count a) allocations rest)

-- The start piece, which calls `main`, then the functions, then the division routines, and nothing else; and the data.
abbrev pub program_assembly : TempProgram → List Allocation → Assembly
program_assembly program allocations = record {
  items = start_items (main_of program.functions)
      (functions_items program.globals 0 (first_label (length allocations)) allocations all_items);
  bytes = global_bytes program.globals;
  fixes = global_fixes program.globals;
}
