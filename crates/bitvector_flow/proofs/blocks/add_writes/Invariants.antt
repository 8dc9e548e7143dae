-- The registers that were written so far are in.
use Rattle.std.proofs.Common.{◌≡◌, ℕ, ◌||◌, length, take}
use Rattle.bk_bits.specs.Sets.{has}
use Rattle.bitvector_flow.specs.Lives.{has_register}
use Rattle.bitvector_flow.proofs.blocks.add_writes.Given as goal

abbrev pub invariant-loop-k : goal.invariant-loop-k
invariant-loop-k g l = record {
  bound : length l.writes ≡ length l.initial.writes;
  members : (j : ℕ) → has l.writes j ≡ (has l.initial.writes j || has_register (take l.k (g.I.Insn.writes l.insn)) j);
}
