use Rattle.std.proofs.Common.{◌∙◌, sym}
use Rattle.frame_layout.proofs.Sound.{end_flows}
use Rattle.frame_layout.proofs.kept.end_transfers.Goals as goal

pub returns-clause-is : goal.returns-clause-is
returns-clause-is c =
    c.end.ensures
    ∙ end_flows c.args.layout.now c.args.edges.now.blocks.now c.args.edges.now.edges.now c.args.block c.args.insns.now
    c.requires.sound c.requires.blocks c.requires.edges c.requires.block (sym c.if-not-flows_out.ensures) (sym c.if-ends_with_branch.ensures)
