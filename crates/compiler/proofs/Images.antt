-- The image that was made of a text is right for the text.
use Rattle.std.proofs.Common.{sym, subst}
use Rattle.c_semantics.specs.Behaves.{rooms_of}
use Rattle.image_assembly.specs.Programs.{HasItemsOf, plans_of}
use Rattle.image_assembly_laws.specs.Laws.{AssembliesHavePrograms, placement_of}
use Rattle.compiler_theorem.specs.unit_images.Laws.{IsMadeOf}
use Rattle.compiler_theorem.specs.same_behaviour.Same.{UnitsBehaveAlike, UnitsEndSoon}
use Rattle.compiler.specs.model.Stages.{ImagesAreCorrect}

pub images_are_correct : AssembliesHavePrograms → UnitsBehaveAlike → UnitsEndSoon → ImagesAreCorrect
images_are_correct have_programs alike end_soon text allocator b made short =
    let placing = placement_of b.temps b.allocations.items in
    let of : IsMadeOf b.typed.unit (rooms_of b.typed.unit) b.image = record {
      code = b.vm;
      runs = made.code_runs;
      selected = b.temps;
      keeps = made.selection;
      allocations = b.allocations.items;
      allocated = made.allocated;
      assembly = b.asm;
      whole = made.whole;
      placing = placing;
      items = subst (λ x. HasItemsOf x b.temps (plans_of b.allocations.items) placing) (sym made.exact)
          (have_programs b.temps b.allocations.items);
      words = made.words;
      lawful = made.lawful;
    } in
    record {
      tree = b.unit;
      unit = b.typed.unit;
      is_unit = made.front;
      correct = record {
        same = λ stack is_stack. alike b.typed.unit b.image b.typed.lawful.typed of stack is_stack;
        soon = λ stack is_stack. end_soon b.typed.unit b.image b.typed.lawful.typed of stack is_stack;
        short = short;
      };
    }
