use Rattle.std.proofs.Common.{refl, ap, set}
use Rattle.cfg.proofs.Sources.{edge_added, edge_past}
use Rattle.cfg.proofs.predecessors.add_edge.Goals as goal

pub returns-then-to-lists : goal.returns-then-to-lists
returns-then-to-lists c edges is = edge_past c.args.lists.now c.args.number c.args.to c.if-to-lists.true edges is

pub returns : goal.returns
returns c edges is =
    edge_added c.args.lists.now _ _ c.index-lists-to.result c.args.number c.args.to c.if-to-lists.false refl
    (ap (set c.args.lists.now c.args.to) c.in_ok-push.ensures.ok) edges is
