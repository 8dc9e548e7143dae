-- What was put, with the events of the blocks that are left behind it, is the whole.
use Rattle.std.proofs.Common.{◌≡◌, ◌++◌, ◌<◌, length, take, drop}
use Rattle.pass_core.specs.Functions.{count_of}
use Rattle.alloc_plain.specs.model.Held.{nothing_held, Holds}
use Rattle.alloc_plain.specs.model.Visits.{journal_in_slots}
use Rattle.alloc_plain.proofs.journal.put_blocks.Given as goal

abbrev pub invariant-loop-number : goal.invariant-loop-number
invariant-loop-number l = record {
  next : l.passed.next ≡ count_of (take l.number l.blocks);
  holds : Holds (λ t. t < length l.ends) l.passed.held;
  events : l.out ++ journal_in_slots l.ends l.tops l.passed.next l.number (drop l.number l.blocks) l.passed.held
      ≡ l.initial.out ++ journal_in_slots l.ends l.tops 0 0 l.blocks nothing_held;
}
