-- What was put, with the events of what is left behind it, is the whole.
use Rattle.std.proofs.Common.{◌≡◌, ◌+◌, ◌++◌, ◌<◌, None, length, All}
use Rattle.bk_ilist.specs.Listing.{items}
use Rattle.pass_core.specs.Functions.{UsesRegisters}
use Rattle.temp_ir.specs.Insns.{reads_of, writes_of}
use Rattle.alloc_plain.specs.model.Held.{held_behind_all, Holds}
use Rattle.alloc_plain.specs.model.Visits.{visits_in_slots}
use Rattle.alloc_plain.proofs.journal.put_visits.Given as goal

abbrev pub invariant-loop-line : goal.invariant-loop-line
invariant-loop-line l = record {
  next : l.next + length (items l.line-iterator) ≡ l.fn.passed.next + length l.block;
  inside : All (UsesRegisters reads_of writes_of (length l.ends)) (items l.line-iterator);
  holds : Holds (λ t. t < length l.ends) l.held;
  events : l.out ++ visits_in_slots l.ends l.next l.previous (items l.line-iterator) l.held ≡ l.initial.out ++ visits_in_slots l.ends l.fn.passed.next None l.block l.fn.passed.held;
  behind : held_behind_all (items l.line-iterator) l.held ≡ held_behind_all l.block l.fn.passed.held;
}
