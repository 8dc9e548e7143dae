use Rattle.std.proofs.Common.{length}
use Rattle.alloc_plain.proofs.Loops.{some_below}
use Rattle.alloc_plain.proofs.holders.at_top.Goals as goal

pub unless_live-requires : goal.unless_live-requires
unless_live-requires c = some_below (length c.args.live.now) c.args.held.first c.requires.first

pub unless_live-requires-2 : goal.unless_live-requires-2
unless_live-requires-2 c = some_below (length c.args.live.now) c.args.held.second c.requires.second

pub unless_live-requires-3 : goal.unless_live-requires-3
unless_live-requires-3 c = some_below (length c.args.live.now) c.args.held.third c.requires.third
