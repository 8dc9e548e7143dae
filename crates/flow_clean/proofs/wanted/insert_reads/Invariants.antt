-- The registers that were read so far are in.
use Rattle.std.proofs.Common.{◌≡◌, ℕ, ◌||◌, length, take}
use Rattle.bk_bits.specs.Sets.{has}
use Rattle.bitvector_flow.specs.Lives.{has_register}
use Rattle.suifvm_ir.specs.Insns.{reads_of}
use Rattle.flow_clean.proofs.wanted.insert_reads.Given as goal

abbrev pub invariant-loop-k : goal.invariant-loop-k
invariant-loop-k l = record {
  bound : length l.wanted ≡ length l.initial.wanted;
  members : (j : ℕ) → has l.wanted j ≡ (has l.initial.wanted j || has_register (take l.k (reads_of l.insn)) j);
}
