use Rattle.std.proofs.Common.{arith}
use Rattle.alpha_asm.proofs.Places.{place-most}
use Rattle.alpha_asm.proofs.Steps.{back_set}
use Rattle.alpha_asm.proofs.far.settle_back.Goals as goal

pub overflow_add-places : goal.overflow_add-places
overflow_add-places c =
    let here = c.requires.swept.at c.args.i (omega arith) in
    let few = place-most c.args.items.now c.args.far.now c.args.i in
    omega (arith, here, few, c.words_of_item.ensures.few)

pub overflow_add-places-2 : goal.overflow_add-places-2
overflow_add-places-2 c =
    let here = c.requires.swept.at c.args.i (omega arith) in
    let few = place-most c.args.items.now c.args.far.now c.args.i in
    omega (arith, here, few, c.words_of_item-2.ensures.few)

pub returns-then-is_too_far_back-clause-swept : goal.returns-then-is_too_far_back-clause-swept
returns-then-is_too_far_back-clause-swept c =
    back_set _ _ _ _ _ c.index-items-i.result c.requires.swept c.requires.inside c.index-items-i.is c.words_of_item.ensures.words
