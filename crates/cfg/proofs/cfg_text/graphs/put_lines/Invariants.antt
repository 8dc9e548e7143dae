use Rattle.std.proofs.Common.{◌≡◌, ◌++◌, drop}
use Rattle.cfg.specs.cfg_text.Text.{lines_text}
use Rattle.cfg.proofs.cfg_text.graphs.put_lines.Given as goal

abbrev pub invariant-loop-at : goal.invariant-loop-at
invariant-loop-at l =
    l.out.items ++ lines_text l.at (drop l.at l.followers) ≡ l.initial.out.items ++ lines_text 0 l.followers
