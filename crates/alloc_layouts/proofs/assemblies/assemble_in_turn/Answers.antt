use Rattle.std.proofs.Common.{length, sym, ap, ◌∙◌, subst, All}
use Rattle.alpha_items.specs.Assembly.{IsWhole}
use Rattle.mem_objects.specs.Layout.{ObjectsLieFrom}
use Rattle.frame_memory.proofs.FlatGlobals.LaidOut.{lawful_ones_are_laid_out}
use Rattle.image_assembly.specs.Assemblies.{with_data}
use Rattle.alloc_layouts.specs.model.Parts.{CanBeLaidOut, AreItemsBy}
use Rattle.alloc_layouts.proofs.Whole.{all_can, items_are_whole, assembly_by}
use Rattle.alloc_layouts.proofs.assemblies.assemble_in_turn.Goals as goal

pub items_of-requires-clause-can : goal.items_of-requires-clause-can
items_of-requires-clause-can g c =
    subst (λ gs. All (CanBeLaidOut (length c.args.program.functions) gs) c.args.program.functions) (sym c.as_slice.ensures)
    (all_can c.args.program c.requires.frames)

pub items_of-requires-clause-layout : goal.items_of-requires-clause-layout
items_of-requires-clause-layout g c =
    subst (ObjectsLieFrom 0) (sym c.as_slice.ensures)
    (lawful_ones_are_laid_out c.args.program.globals c.args.program.globals_lawful).layout

pub with_data-requires-clause-whole : goal.with_data-requires-clause-whole
with_data-requires-clause-whole g c =
    subst (λ gs. IsWhole (with_data c.in_ok-items.items.items gs)) (sym c.as_slice-2.ensures)
    (items_are_whole g.A.Allocates.gives g.met.A.Allocates.lawful c.allocations_fit.ensures c.allocations_can_be_assembled.ensures c.assemblies_are_whole.ensures
    c.args.program c.requires.frames c.requires.names c.requires.data_size c.in_ok-items.items.items
    (subst (λ gs. AreItemsBy g.A.Allocates.gives gs c.args.program.functions c.in_ok-items.items.items) c.as_slice.ensures c.in_ok-items.ensures))

pub returns : goal.returns
returns g c =
    assembly_by g.A.Allocates.gives g.met.A.Allocates.lawful c.allocations_fit.ensures c.allocations_can_be_assembled.ensures c.assemblies_are_whole.ensures
    c.args.program c.requires.frames c.requires.names c.requires.data_size c.in_ok-items.items.items
    (subst (λ gs. AreItemsBy g.A.Allocates.gives gs c.args.program.functions c.in_ok-items.items.items) c.as_slice.ensures c.in_ok-items.ensures)
    c.in_ok-asm.asm (c.in_ok-asm.ensures ∙ ap (λ gs. with_data c.in_ok-items.items.items gs) c.as_slice-2.ensures)
