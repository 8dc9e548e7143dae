use Rattle.std.proofs.Common.{◌≡◌, ◌-◌, ◌+◌, drop}
use Rattle.std.specs.Prelude.{option_map}
use Rattle.c_lexer.specs.Blanks.{close_at}
use Rattle.c_lexer.proofs.blanks.close_at.Given as goal

abbrev pub invariant-loop-i : goal.invariant-loop-i
invariant-loop-i l = close_at l.s ≡ option_map (λ n. n + (l.i - 1)) (close_at (drop (l.i - 1) l.s))
