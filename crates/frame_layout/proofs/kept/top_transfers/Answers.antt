use Rattle.std.proofs.Common.{◌∙◌}
use Rattle.frame_layout.proofs.Sound.{top_of}
use Rattle.frame_layout.proofs.kept.top_transfers.Goals as goal

pub returns-clause-is : goal.returns-clause-is
returns-clause-is c =
    c.top.ensures
    ∙ top_of c.args.layout.now c.args.edges.now.blocks.now c.args.edges.now.edges.now c.args.block
    c.requires.sound c.requires.blocks c.requires.edges c.requires.block
