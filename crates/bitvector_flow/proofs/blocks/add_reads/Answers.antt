use Rattle.std.proofs.Common.{sym, ◌∙◌}
use Rattle.bk_bits.specs.Sets.{has}
use Rattle.bitvector_flow.proofs.Registers.{read_more}
use Rattle.bitvector_flow.proofs.blocks.add_reads.Goals as goal

pub loop-k-preserved : goal.loop-k-preserved
loop-k-preserved g c = record {
  bound = c.add_read.ensures.bound ∙ c.loop-k.invariant.bound;
  members = λ j. read_more (g.I.Insn.reads c.args.insn.now) c.loop-k.k c.in-Some.register j (has c.args.reads.now j) (has c.loop-k.reads j) (has c.add_read.new.reads j) (has c.args.writes.now j)
      (sym c.read_at.ensures ∙ c.in-Some.is) (c.loop-k.invariant.members j) (c.add_read.ensures.members j);
}
