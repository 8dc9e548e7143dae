use Rattle.std.proofs.Common.{refl}
use Rattle.compiler.proofs.Parts.{few_words, all_kept, unit_parts}
use Rattle.compiler.proofs.compile.make.Goals as goal

pub code_of-requires : goal.code_of-requires
code_of-requires c = c.requires.front.light

pub assemble_by_choice-requires : goal.assemble_by_choice-requires
assemble_by_choice-requires c =
    c.code_can_be_assembled.ensures c.requires.text c.args.front.unit c.args.front.typed c.in_ok-typed.ensures.vm
    c.in_ok-typed.field-0.temps c.requires.front c.in_ok-typed.ensures.within

pub image_of-requires : goal.image_of-requires
image_of-requires c =
    few_words c.assemblies_are_made.ensures c.args.allocator c.args.wanted c.args.front.unit c.args.front.typed
    c.in_ok-typed.field-0 c.in_ok-typed.ensures c.in_ok-temps.field-0 c.in_ok-temps.ensures c.requires

pub returns-clause-made : goal.returns-clause-made
returns-clause-made c =
    let code = c.in_ok-typed.ensures in
    unit_parts c.assemblies_are_made.ensures c.args.allocator c.args.wanted c.args.front.unit c.args.front.typed
    c.in_ok-typed.field-0 code c.in_ok-temps.field-0 c.in_ok-temps.ensures _ c.in_ok-image.ensures.words
    c.in_ok-image.ensures.lawful
    (λ is. all_kept _ _ (c.keep-unit.ensures is) (code.typed_kept is) (code.rewritten_kept is) (code.copied_kept is)
    (code.vm_kept is) (c.in_ok-temps.ensures.program is) (c.in_ok-temps.ensures.kept is) (c.keep-asm.ensures is) refl)
