-- The temporaries below a number that leave a register.
use Rattle.std.proofs.Common.{◌≡◌, ◌++◌, ◌-◌, ◌≤◌, length}
use Rattle.std.specs.Prelude.{flat_map}
use Rattle.std.specs.List.{range_with_len}
use Rattle.alloc_plain.specs.model.Visits.{leaving_at}
use Rattle.alloc_plain.proofs.visits.put_all_leaving.Given as goal

abbrev pub invariant-loop-temp : goal.invariant-loop-temp
invariant-loop-temp l = record {
  within : l.from ≤ length l.ends;
  events : l.out ≡ l.initial.out ++ flat_map (leaving_at l.ends l.visit.number l.visit.before l.visit.left l.visit.behind) (range_with_len 0 l.from);
}

abbrev pub decreases-loop-temp : goal.decreases-loop-temp
decreases-loop-temp l = length l.ends - l.from
