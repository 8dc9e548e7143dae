-- What was put, with the members that are left behind it, is the whole.
use Rattle.std.proofs.Common.{◌≡◌, ◌-◌, ◌≤◌, ◌++◌, length}
use Rattle.alloc_live_lines.proofs.Loops.{members_from}
use Rattle.alloc_live_lines.proofs.lines.put_members.Given as goal

abbrev pub invariant-loop-temp : goal.invariant-loop-temp
invariant-loop-temp l = record {
  within : l.from ≤ length l.set;
  text : l.out.items ++ members_from l.set l.from ≡ l.initial.out.items ++ members_from l.set 0;
}

abbrev pub decreases-loop-temp : goal.decreases-loop-temp
decreases-loop-temp l = length l.set - l.from
