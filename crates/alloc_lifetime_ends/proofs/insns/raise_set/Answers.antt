use Rattle.std.proofs.Common.{length, arith}
use Rattle.alloc_lifetime_ends.proofs.Raising.{next_fits}
use Rattle.alloc_lifetime_ends.proofs.insns.raise_set.Goals as goal

pub overflow_add-from : goal.overflow_add-from
overflow_add-from c =
    let fits = next_fits c.args.set.now c.loop-temp.from c.in-Some.temp (length c.args.ends.now) c.in-Some.ensures.some c.requires.bound c.requires.few in
    omega (arith, fits)
