-- What was put, with the events of the blocks that are left behind it, is the whole.
use Rattle.std.proofs.Common.{◌≡◌, ◌++◌, length, take, drop}
use Rattle.pass_core.specs.Functions.{count_of}
use Rattle.alloc_journal.specs.model.Tables.{AreBelow}
use Rattle.alloc_journal.specs.model.Visits.{journal_by}
use Rattle.alloc_journal.proofs.walk.put_blocks.Given as goal

abbrev pub invariant-loop-block : goal.invariant-loop-block
invariant-loop-block l = record {
  next : l.next ≡ count_of (take l.block-index l.blocks);
  many : length l.holders ≡ 26;
  below : AreBelow l.temps l.holders;
  events : l.out ++ journal_by l.temps l.lives l.at l.regs l.next (drop l.block-index l.blocks) l.holders ≡ l.initial.out ++ journal_by l.temps l.lives l.at l.regs 0 l.blocks l.initial.holders;
}
