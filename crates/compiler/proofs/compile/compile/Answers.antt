use Rattle.compiler.proofs.Parts.{whole, whole_made, whole_correct}
use Rattle.compiler.proofs.compile.compile.Goals as goal

pub make-requires : goal.make-requires
make-requires c = record { text = c.args.text.now; front = c.in_ok-front.ensures.unit }

pub into_built-requires : goal.into_built-requires
into_built-requires c =
    whole c.args.text.now c.args.options.now.allocator c.in_ok-parts.parts
    (c.in_ok-parts.ensures.made c.args.text.now c.in_ok-front.ensures.unit)

pub returns-clause-made : goal.returns-clause-made
returns-clause-made c =
    whole_made c.args.text.now c.args.options.now.allocator c.in_ok-parts.parts c.into_built.result
    (c.in_ok-parts.ensures.made c.args.text.now c.in_ok-front.ensures.unit) c.into_built.ensures

pub returns-clause-correct : goal.returns-clause-correct
returns-clause-correct c =
    whole_correct c.images_are_correct.ensures c.args.text.now c.args.options.now.allocator c.in_ok-parts.parts c.into_built.result
    (c.in_ok-parts.ensures.made c.args.text.now c.in_ok-front.ensures.unit) c.into_built.ensures
