-- What is asked of the functions of a program, and what is made of them.
use Rattle.std.proofs.Common.{◌≡◌, ℕ, ◌≤◌, List, [], ◌++◌, length, sym, ap, ◌∙◌, subst, append_assoc}
use Rattle.std.specs.Prelude.{All, IsTrue, unwrap_or}
use Rattle.std.specs.List.{position}
use Rattle.alpha_items.specs.declared.item.AsmItem.{AsmItem}
use Rattle.alpha_items.specs.Assembly.{Assembly, IsWhole}
use Rattle.alpha_items.specs.Items.{is_name}
use Rattle.alpha_rt.specs.Items.{all_items}
use Rattle.mem_objects.specs.declared.DataObject.{DataObject}
use Rattle.mem_objects.specs.declared.TheConstants.{MOST_DATA}
use Rattle.mem_objects.specs.Layout.{data_end}
use Rattle.temp_ir.specs.declared.program.TempProgram.{TempProgram}
use Rattle.temp_ir.specs.Programs.{TempFn, is_main}
use Rattle.alloc_model.specs.declared.allocation.Allocation.{Allocation}
use Rattle.alloc_rules.specs.Allocations.{IsAllocationOf}
use Rattle.alloc_rules.proofs.Allocations.{are_allocations}
use Rattle.image_assembly_laws.specs.Laws.{AssembliesAreWhole}
use Rattle.image_assembly.specs.Assemblies.{final_items, main_of, with_data}
use Rattle.image_assembly_laws.specs.allocation_laws.Laws.{HasFrame, AllocationsFit, AllocationsCanBeAssembled}
use Rattle.image_assembly.specs.Layouts.{first_label}
use Rattle.image_assembly.specs.Programs.{start_items}
use Rattle.image_assembly_laws.proofs.AllocationLaws.Fit.{one_fits}
use Rattle.alloc_layouts.specs.Layouts.{IsAssemblyBy}
use Rattle.alloc_layouts.specs.model.Parts.{CanBeLaidOut, AreLayoutsBy, AreItemsBy}
use Rattle.alloc_layouts.proofs.Lists.{same_main}

pub all_can : (program : TempProgram) → All HasFrame program.functions → All (CanBeLaidOut (length program.functions) program.globals) program.functions
all_can program frames = λ k d lt. record {
  settled = (program.functions_lawful k d lt).settled;
  fits = λ a of. one_fits program.functions program.globals frames _ a (frames k d lt) (program.functions_lawful k d lt) of;
}

-- all items
pub whole_text : (gives : TempFn → Allocation → Type 0) (lawful : (f : TempFn) (a : Allocation) → gives f a → IsAllocationOf f a) (globals : List DataObject) (fs : List TempFn) (main : ℕ) (before items text : List AsmItem) → main ≡ unwrap_or (position is_main fs) 0 → before ≡ start_items main [] → AreLayoutsBy gives globals fs before items
    → text ≡ items ++ all_items → AreItemsBy gives globals fs text
whole_text gives lawful globals fs main before items text is begins laid more =
    let mains = is ∙ same_main globals 0 (first_label (length laid.allocations)) fs laid.allocations laid.finals (are_allocations gives lawful fs laid.allocations laid.are) laid.laid_out in
    record {
      allocations = laid.allocations;
      are = laid.are;
      small = laid.small;
      finals = laid.finals;
      laid_out = laid.laid_out;
      text = more ∙ ap (λ l. l ++ all_items) laid.text ∙ append_assoc before (final_items laid.finals) all_items
          ∙ ap (λ b. b ++ (final_items laid.finals ++ all_items)) (begins ∙ ap (λ m. start_items m []) mains);
    }

-- the assembly of them
module _ (gives : TempFn → Allocation → Type 0) (lawful : (f : TempFn) (a : Allocation) → gives f a → IsAllocationOf f a) (fit : AllocationsFit) (assembled : AllocationsCanBeAssembled) (are_whole : AssembliesAreWhole) (program : TempProgram) (frames : All HasFrame program.functions) (names : All (λ (f : TempFn). IsTrue (is_name f.name)) program.functions)
    (data_size : data_end program.globals ≤ MOST_DATA) (items : List AsmItem) (h : AreItemsBy gives program.globals program.functions items) where
  pub items_are_whole : IsWhole (with_data items program.globals)
  items_are_whole =
      let are = are_allocations gives lawful program.functions h.allocations h.are in
      let fits = fit program h.allocations are frames in
      let can = assembled program h.allocations are frames names h.small in
      subst (λ xs. IsWhole (with_data xs program.globals)) (sym h.text)
      (are_whole program.globals h.allocations h.finals program.globals_lawful data_size fits.some can h.laid_out)

  pub assembly_by : (asm : Assembly) → asm ≡ with_data items program.globals → IsAssemblyBy gives program asm
  assembly_by asm is = record {
    allocations = h.allocations;
    are = h.are;
    finals = h.finals;
    laid_out = h.laid_out;
    is_gathered = is ∙ ap (λ xs. with_data xs program.globals) h.text;
    whole = subst IsWhole (sym is) items_are_whole;
  }
