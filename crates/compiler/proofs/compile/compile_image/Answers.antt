use Rattle.std.proofs.Common.{subst}
use Rattle.compiler_front_end.specs.Units.{IsUnitWithin}
use Rattle.compiler.specs.declared.built.WantedParts.TheVariants.{Image}
use Rattle.compiler.proofs.Parts.{image_made, image_correct}
use Rattle.compiler.proofs.compile.compile_image.Goals as goal

pub make-requires : goal.make-requires
make-requires c = record { text = c.as_slice.result.now; front = c.in_ok-front.ensures.unit }

pub returns-clause-correct : goal.returns-clause-correct
returns-clause-correct c =
    image_correct c.images_are_correct.ensures c.args.text.items c.args.options.now.allocator Image c.in_ok-parts.parts
    (c.in_ok-parts.ensures.made c.args.text.items
    (subst (λ t. IsUnitWithin t c.in_ok-front.front.unit c.in_ok-front.front.typed.unit) c.as_slice.ensures.value
    c.in_ok-front.ensures.unit))

pub returns-clause-made : goal.returns-clause-made
returns-clause-made c =
    image_made c.args.text.items c.args.options.now.allocator Image c.in_ok-parts.parts
    (c.in_ok-parts.ensures.made c.args.text.items
    (subst (λ t. IsUnitWithin t c.in_ok-front.front.unit c.in_ok-front.front.typed.unit) c.as_slice.ensures.value
    c.in_ok-front.ensures.unit))
