use Rattle.std.proofs.Common.{arith}
use Rattle.binpack_blocks.proofs.Holders.{nowhere_all}
use Rattle.binpack_blocks.proofs.bins.Scan.register_of.Goals as goal

pub returns-clause-none : goal.returns-clause-none
returns-clause-none c = nowhere_all c.args.self.now.bins.items c.args.temp c.args.self.now.many (λ q w. c.loop-r.invariant q (omega (arith, w, c.loop-r-test.false)))
