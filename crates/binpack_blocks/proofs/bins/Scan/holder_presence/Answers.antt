use Rattle.std.proofs.Common.{arith}
use Rattle.binpack_blocks.proofs.Holders.{inside_held}
use Rattle.binpack_blocks.proofs.bins.Scan.holder_presence.Goals as goal

pub next_presence-requires-clause-there : goal.next_presence-requires-clause-there
next_presence-requires-clause-there c =
    let low = inside_held c.args.self.now.temps c.args.self.now.bins.items c.args.r c.in-Some.held c.args.self.now.inside c.in-Some.ensures in
    let size = c.requires.parts in
    omega (arith, low, size)
