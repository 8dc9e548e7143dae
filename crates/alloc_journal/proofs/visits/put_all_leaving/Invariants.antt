-- The temporaries below a number that leave a register.
use Rattle.std.proofs.Common.{◌≡◌, ◌++◌, ◌-◌, ◌≤◌}
use Rattle.std.specs.Prelude.{flat_map}
use Rattle.std.specs.List.{range_with_len}
use Rattle.alloc_journal.specs.model.Leaving.{leaving_at}
use Rattle.alloc_journal.proofs.visits.put_all_leaving.Given as goal

abbrev pub invariant-loop-temp : goal.invariant-loop-temp
invariant-loop-temp l = record {
  within : l.from ≤ l.temps;
  events : l.out ≡ l.initial.out ++ flat_map (leaving_at l.lives l.number l.before l.left l.behind) (range_with_len 0 l.from);
}

abbrev pub decreases-loop-temp : goal.decreases-loop-temp
decreases-loop-temp l = l.temps - l.from
