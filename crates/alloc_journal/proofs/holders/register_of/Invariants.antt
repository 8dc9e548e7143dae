-- None of the registers below has it.
use Rattle.std.proofs.Common.{◌≡◌, drop}
use Rattle.alloc_journal.specs.model.Holders.{register_from, register_in}
use Rattle.alloc_journal.proofs.holders.register_of.Given as goal

abbrev pub invariant-loop-r : goal.invariant-loop-r
invariant-loop-r l = register_from l.r (drop l.r l.holders) l.temp ≡ register_in l.holders l.temp
