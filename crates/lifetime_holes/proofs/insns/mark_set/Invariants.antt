-- The members below a number are marked.
use Rattle.std.proofs.Common.{◌≡◌, ◌-◌, ◌≤◌, length}
use Rattle.lifetime_holes.specs.model.Spans.{JoinsSome, Changes}
use Rattle.lifetime_holes.proofs.Tables.{below}
use Rattle.lifetime_holes.proofs.insns.mark_set.Given as goal

abbrev pub invariant-loop-temp : goal.invariant-loop-temp
invariant-loop-temp l = record {
  within : l.from ≤ length l.set;
  many : length l.table ≡ length l.initial.table;
  marked : Changes (below l.set l.from) (JoinsSome l.first l.last) l.initial.table l.table;
}

abbrev pub decreases-loop-temp : goal.decreases-loop-temp
decreases-loop-temp l = length l.set - l.from
