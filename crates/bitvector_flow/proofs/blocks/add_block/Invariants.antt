-- The sets so far, with what the instructions that are left read first and write, are those of the whole block.
use Rattle.std.proofs.Common.{◌≡◌, ℕ, ◌&&◌, ◌||◌, not, length, All}
use Rattle.pass_core.specs.Functions.{UsesRegisters}
use Rattle.bk_bits.specs.Sets.{has}
use Rattle.bk_ilist.specs.Listing.{items}
use Rattle.bitvector_flow.specs.Lives.{reads_first, some_writes, HasFewRegisters}
use Rattle.bitvector_flow.proofs.blocks.add_block.Given as goal

abbrev pub invariant-loop-line : goal.invariant-loop-line
invariant-loop-line g l = record {
  bound : length l.reads ≡ length l.initial.reads;
  bound_writes : length l.writes ≡ length l.initial.writes;
  inside : All (UsesRegisters g.I.Insn.reads g.I.Insn.writes (length l.initial.reads)) (items l.line-iterator);
  few : All (HasFewRegisters g.I.Insn.reads g.I.Insn.writes) (items l.line-iterator);
  reads : (k : ℕ) → (has l.reads k || (not (has l.writes k) && reads_first g.I.Insn.reads g.I.Insn.writes (items l.line-iterator) k))
      ≡ (has l.initial.reads k || (not (has l.initial.writes k) && reads_first g.I.Insn.reads g.I.Insn.writes l.block k));
  writes : (k : ℕ) → (has l.writes k || some_writes g.I.Insn.writes (items l.line-iterator) k) ≡ (has l.initial.writes k || some_writes g.I.Insn.writes l.block k);
}
