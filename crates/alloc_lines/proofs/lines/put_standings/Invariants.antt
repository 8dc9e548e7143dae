-- What was put, with the text of what is left behind it, is the whole.
use Rattle.std.proofs.Common.{◌≡◌, ◌++◌, drop}
use Rattle.alloc_lines.specs.Text.{standings_text}
use Rattle.alloc_lines.proofs.lines.put_standings.Given as goal

abbrev pub invariant-loop-standing : goal.invariant-loop-standing
invariant-loop-standing l =
    l.out.items ++ standings_text (drop l.standing-index l.standings) ≡ l.initial.out.items ++ standings_text l.standings
