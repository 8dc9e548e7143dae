-- What was put, with the events of what is left behind it, is the whole.
use Rattle.std.proofs.Common.{◌≡◌, ◌+◌, ◌++◌, length, All}
use Rattle.bk_ilist.specs.Listing.{items}
use Rattle.pass_core.specs.Functions.{UsesRegisters}
use Rattle.temp_ir.specs.Insns.{reads_of, writes_of}
use Rattle.alloc_journal.specs.model.Tables.{AreBelow}
use Rattle.alloc_journal.specs.model.Visits.{visits_by, behind_all}
use Rattle.alloc_journal.proofs.walk.put_visits.Given as goal

abbrev pub invariant-loop-line : goal.invariant-loop-line
invariant-loop-line l = record {
  next : l.next + length (items l.line-iterator) ≡ l.number + length l.block;
  inside : All (UsesRegisters reads_of writes_of l.temps) (items l.line-iterator);
  many : length l.holders ≡ 26;
  below : AreBelow l.temps l.holders;
  events : l.out ++ visits_by l.temps l.lives l.at l.regs l.next (items l.line-iterator) l.holders ≡ l.initial.out ++ visits_by l.temps l.lives l.at l.regs l.number l.block l.initial.holders;
  behind : behind_all l.at l.regs l.next (items l.line-iterator) l.holders ≡ behind_all l.at l.regs l.number l.block l.initial.holders;
}
