use Rattle.std.proofs.Common.{arith}
use Rattle.alpha_items.proofs.Far.{length-sizes}
use Rattle.alpha_asm.proofs.sums.change_words.Goals as goal

pub loop-node-init : goal.loop-node-init
loop-node-init c =
    let long = length-sizes c.args.items.now c.args.far.now c.requires.one_each in
    record { inside = omega (arith, c.requires.inside, c.put_words.ensures.room, long); sums = c.put_words.ensures }
