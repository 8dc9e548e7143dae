use Rattle.binpack_blocks.proofs.Holders.{inside_held, only_held}
use Rattle.binpack_blocks.proofs.bins.Scan.lend_one.Goals as goal

pub put-requires-clause-low : goal.put-requires-clause-low
put-requires-clause-low c = inside_held c.args.self.now.temps c.args.self.now.bins.items c.args.r c.in-Some.held c.args.self.now.inside c.in-Some.ensures

pub put-requires-clause-alone : goal.put-requires-clause-alone
put-requires-clause-alone c = only_held c.args.self.now.bins.items c.args.r c.in-Some.held c.args.self.now.once c.in-Some.ensures
