use Rattle.std.proofs.Common.{arith}
use Rattle.alpha_asm.proofs.Trees.{risen_sums}
use Rattle.alpha_asm.proofs.sums.rise.Goals as goal

pub returns-clause-words : goal.returns-clause-words
returns-clause-words c leaves a b h before =
    risen_sums leaves c.args.sums.now c.args.range.left c.args.range.right c.args.range.words c.rise_left-left.result.0 c.rise_left-left.result.1
    c.rise_right-right.result.0 c.rise_right-right.result.1 a b h
    (omega (arith, c.requires.some, c.rise_left-left.ensures.near, c.rise_right-right.ensures.near))
    (omega (arith, c.requires.inside, c.rise_right-right.ensures.node, h.room))
    c.rise_left-left.ensures.words c.rise_right-right.ensures.words before
