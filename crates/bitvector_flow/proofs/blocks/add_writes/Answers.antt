use Rattle.std.proofs.Common.{sym, ◌∙◌}
use Rattle.bk_bits.specs.Sets.{has}
use Rattle.bitvector_flow.proofs.Registers.{write_more}
use Rattle.bitvector_flow.proofs.blocks.add_writes.Goals as goal

pub loop-k-preserved : goal.loop-k-preserved
loop-k-preserved g c = record {
  bound = c.add_write.ensures.bound ∙ c.loop-k.invariant.bound;
  members = λ j. write_more (g.I.Insn.writes c.args.insn.now) c.loop-k.k c.in-Some.register j (has c.args.writes.now j) (has c.loop-k.writes j) (has c.add_write.new.writes j)
      (sym c.write_at.ensures ∙ c.in-Some.is) (c.loop-k.invariant.members j) (c.add_write.ensures.members j);
}
