use Rattle.std.proofs.Common.{ap, ◌∙◌, arith, length}
use Rattle.cfg.specs.Edges.{predecessors}
use Rattle.cfg.proofs.Lists.{length-successors}
use Rattle.cfg.proofs.graph.build.Goals as goal

pub predecessor_lists-requires : goal.predecessor_lists-requires
predecessor_lists-requires g c =
    let shown = ap length c.as_slice-2.ensures in
    let made = ap length c.in_ok-succ.ensures in
    let each = length-successors g.I.Insn.targets g.I.Insn.flows_on 0 c.as_slice.result.now in
    let blocks = ap length c.as_slice.ensures in
    let few = c.args.f.now.few_blocks in
    omega arith

pub returns-clause-pred : goal.returns-clause-pred
returns-clause-pred g c =
    let each = length-successors g.I.Insn.targets g.I.Insn.flows_on 0 c.as_slice.result.now in
    c.in_ok-pred.ensures
    ∙ ap (λ ls. predecessors ls (length ls)) c.as_slice-2.ensures
    ∙ ap (predecessors c.in_ok-succ.succ) (ap length c.in_ok-succ.ensures ∙ each ∙ ap length c.as_slice.ensures)
