use Rattle.std.proofs.Common.{arith}
use Rattle.binpack_blocks.proofs.Names.{some_idle}
use Rattle.binpack_blocks.proofs.bins.Scan.idle_register.Goals as goal

pub unreachable-requires : goal.unreachable-requires
unreachable-requires c = some_idle c.args.insn.now c.args.self.now.bins.items c.args.self.now.once (λ q l w. c.loop-r.invariant q l (omega (arith, w, c.loop-r-test.false)))
