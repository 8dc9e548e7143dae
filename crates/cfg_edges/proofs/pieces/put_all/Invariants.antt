use Rattle.std.specs.Vec.Iter.{into_iter_items}
use Rattle.cfg_edges.proofs.Splits.{IsPut}
use Rattle.cfg_edges.proofs.pieces.put_all.Given as goal

abbrev pub invariant-loop-block : goal.invariant-loop-block
invariant-loop-block g l =
    IsPut g.I.Insn.targets g.I.Insn.with_target g.I.Insn.jump_to l.numbers l.splits l.fn.blocks (into_iter_items l.block-iterator) l.put l.number
