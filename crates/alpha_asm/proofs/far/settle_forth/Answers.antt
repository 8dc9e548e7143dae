use Rattle.std.proofs.Common.{arith, ◌+◌}
use Rattle.alpha_asm.proofs.Places.{rest-most}
use Rattle.alpha_asm.proofs.Steps.{forth_set}
use Rattle.alpha_asm.proofs.far.settle_forth.Goals as goal

pub overflow_add-rests-then-is_too_far_forth : goal.overflow_add-rests-then-is_too_far_forth
overflow_add-rests-then-is_too_far_forth c =
    let behind = c.requires.swept.at (c.args.i + 1) (omega arith) (omega (arith, c.requires.inside)) in
    let few = rest-most c.args.items.now c.args.far.now (c.args.i + 1) in
    omega (arith, behind, few, c.words_of_item.ensures.few)

pub overflow_add-rests-3 : goal.overflow_add-rests-3
overflow_add-rests-3 c =
    let behind = c.requires.swept.at (c.args.i + 1) (omega arith) (omega (arith, c.requires.inside)) in
    let few = rest-most c.args.items.now c.args.far.now (c.args.i + 1) in
    omega (arith, behind, few, c.words_of_item-2.ensures.few)

pub returns-then-is_too_far_forth-clause-swept : goal.returns-then-is_too_far_forth-clause-swept
returns-then-is_too_far_forth-clause-swept c =
    forth_set _ _ _ _ _ c.index-items-i.result c.requires.swept c.requires.inside c.index-items-i.is c.words_of_item.ensures.words
