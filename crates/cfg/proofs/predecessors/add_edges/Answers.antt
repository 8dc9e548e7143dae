use Rattle.std.proofs.Common.{sym, ap, ◌∙◌, arith, append-nil, length}
use Rattle.cfg.specs.Edges.{sources_of_each}
use Rattle.cfg.proofs.Sources.{edges_step, edges_done}
use Rattle.cfg.proofs.predecessors.add_edges.Goals as goal

pub loop-to-init : goal.loop-to-init
loop-to-init c edges is = is ∙ ap (sources_of_each (length c.args.lists.now)) (sym (append-nil edges))

pub loop-to-preserved : goal.loop-to-preserved
loop-to-preserved c edges is =
    edges_step _ _ _ c.args.number c.loop-to.to-index edges c.args.followers.now c.in_ok-add_edge.ensures c.loop-to.auto.lists (c.loop-to.invariant edges is) c.loop-to-test.true

pub returns : goal.returns
returns c edges is = edges_done _ _ c.args.number c.loop-to.to-index edges c.args.followers.now (c.loop-to.invariant edges is) (omega arith)
