use Rattle.binpack_blocks.proofs.Holders.{inside_held}
use Rattle.binpack_blocks.proofs.bins.Scan.rely.Goals as goal

pub rely_on-requires : goal.rely_on-requires
rely_on-requires c = inside_held c.args.self.now.temps c.args.self.now.bins.items c.args.r c.in-Some.held c.args.self.now.inside c.in-Some.ensures
