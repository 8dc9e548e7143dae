use Rattle.std.proofs.Common.{sym}
use Rattle.binpack_blocks.proofs.Holders.{inside_held, only_held}
use Rattle.binpack_blocks.proofs.bins.Scan.store.Goals as goal

pub put-requires-clause-low : goal.put-requires-clause-low
put-requires-clause-low c = inside_held c.args.self.now.temps c.args.self.now.bins.items c.args.r c.args.held c.args.self.now.inside (sym c.requires)

pub put-requires-clause-alone : goal.put-requires-clause-alone
put-requires-clause-alone c = only_held c.args.self.now.bins.items c.args.r c.args.held c.args.self.now.once (sym c.requires)
