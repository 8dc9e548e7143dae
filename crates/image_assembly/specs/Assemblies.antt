-- The assembly of a program: the start piece, by which `main` is called, then its functions in order, the division
-- routines, and the data of its objects of static storage.
use Rattle.std.specs.Prelude.{ℕ, ◌++◌, Bool, List, codes, bytes_eq, unwrap_or}
use Rattle.std.specs.List.{flat_map, position}
use Rattle.alpha_items.specs.declared.item.AsmItem.{AsmItem}
use Rattle.alpha_items.specs.declared.final_fn.FinalFn.{FinalFn}
use Rattle.alpha_items.specs.Assembly.{Assembly}
use Rattle.alpha_rt.specs.Items.{all_items}
use Rattle.mem_objects.specs.declared.DataObject.{DataObject}
use Rattle.frame_memory.specs.global_data.GlobalBytes.{global_bytes, global_fixes}
use Rattle.image_theorem.specs.program_images.Programs.{start_items}

-- the items of functions, one behind the other
abbrev pub final_items : List FinalFn → List AsmItem
final_items finals = flat_map (λ f. f.items.items) finals

-- the number of the function `main`
abbrev pub is_main : FinalFn → Bool
is_main f = bytes_eq f.name (codes "main")

abbrev pub main_of : List FinalFn → ℕ
main_of finals = unwrap_or (position is_main finals) 0

abbrev pub whole_assembly : List FinalFn → List DataObject → Assembly
whole_assembly finals globals = record {
  items = start_items (main_of finals) (final_items finals ++ all_items);
  bytes = global_bytes globals;
  fixes = global_fixes globals;
}

-- all items with the data of objects of static storage
abbrev pub with_data : List AsmItem → List DataObject → Assembly
with_data items globals = record { items = items; bytes = global_bytes globals; fixes = global_fixes globals }
