use Rattle.std.proofs.Common.{map}
use Rattle.std.specs.Vec.Iter.{into_iter_items}
use Rattle.cfg.specs.Renumber.{renumber}
use Rattle.cfg.proofs.Blocks.{IsKept}
use Rattle.cfg.proofs.renumber.marked_blocks.Given as goal

abbrev pub invariant-loop-block : goal.invariant-loop-block
invariant-loop-block g l =
    IsKept (map (renumber g.I.Insn.targets g.I.Insn.with_target l.numbers)) l.marks l.fn.blocks (into_iter_items l.block-iterator) l.kept l.number
