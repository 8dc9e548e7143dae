use Rattle.std.proofs.Common.{◌∙◌}
use Rattle.frame_layout.proofs.Sound.{jump_by}
use Rattle.frame_layout.proofs.kept.jump_transfers.Goals as goal

pub returns-in-Jump-clause-is : goal.returns-in-Jump-clause-is
returns-in-Jump-clause-is c =
    c.end.ensures
    ∙ jump_by c.args.layout.now c.args.edges.now.blocks.now c.args.edges.now.edges.now c.args.block c.in-Jump.block c.args.insns.now c.args.insn
    c.requires.sound c.requires.blocks c.requires.edges c.requires.block c.in-Jump.is c.requires.next
