use Rattle.std.proofs.Common.{arith}
use Rattle.binpack_blocks.proofs.Holders.{inside_held}
use Rattle.binpack_blocks.proofs.bins.Scan.put_place.Goals as goal

pub is_listed-requires : goal.is_listed-requires
is_listed-requires c =
    let low = inside_held c.args.self.now.temps c.args.self.now.bins.items c.args.r c.in-Some.held c.args.self.now.inside c.in-Some.ensures in
    let size = c.requires.bound in
    omega (arith, low, size)
