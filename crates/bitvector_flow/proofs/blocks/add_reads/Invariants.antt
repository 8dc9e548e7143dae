-- The registers that were read so far are in.
use Rattle.std.proofs.Common.{◌≡◌, ℕ, ◌&&◌, ◌||◌, not, length, take}
use Rattle.bk_bits.specs.Sets.{has}
use Rattle.bitvector_flow.specs.Lives.{has_register}
use Rattle.bitvector_flow.proofs.blocks.add_reads.Given as goal

abbrev pub invariant-loop-k : goal.invariant-loop-k
invariant-loop-k g l = record {
  bound : length l.reads ≡ length l.initial.reads;
  members : (j : ℕ) → has l.reads j ≡ (has l.initial.reads j || (not (has l.writes j) && has_register (take l.k (g.I.Insn.reads l.insn)) j));
}
