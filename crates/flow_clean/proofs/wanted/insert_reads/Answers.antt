use Rattle.std.proofs.Common.{sym, ◌∙◌}
use Rattle.bk_bits.specs.Sets.{has}
use Rattle.suifvm_ir.specs.Insns.{reads_of}
use Rattle.bitvector_flow.proofs.Registers.{write_more}
use Rattle.flow_clean.proofs.wanted.insert_reads.Goals as goal

pub loop-k-preserved : goal.loop-k-preserved
loop-k-preserved c = record {
  bound = c.insert.ensures.bound ∙ c.loop-k.invariant.bound;
  members = λ j. write_more (reads_of c.args.insn.now) c.loop-k.k c.in-Some.register j (has c.args.wanted.now j) (has c.loop-k.wanted j) (has c.insert.new.wanted j)
      (sym c.read_at.ensures ∙ c.in-Some.is) (c.loop-k.invariant.members j) (c.insert.ensures.members j);
}
