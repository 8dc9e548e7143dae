use Rattle.std.proofs.Common.{arith}
use Rattle.alpha_items.proofs.Far.{length-sizes}
use Rattle.alpha_asm.proofs.sums.put_words.Goals as goal

pub bounds-sums-items : goal.bounds-sums-items
bounds-sums-items c =
    let long = length-sizes c.args.items.now c.args.far.now c.requires.one_each in
    omega (arith, c.requires.inside, c.requires.sums.room, long)
