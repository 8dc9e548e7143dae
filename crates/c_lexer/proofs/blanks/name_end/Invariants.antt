use Rattle.std.proofs.Common.{◌≡◌, ◌-◌, ◌+◌, drop, length}
use Rattle.std.specs.Prelude.{option_map}
use Rattle.c_lexer.specs.Blanks.{name_item}
use Rattle.c_lexer.specs.Quotes.{quote_end}
use Rattle.c_lexer.proofs.blanks.name_end.Given as goal

abbrev pub invariant-loop-at : goal.invariant-loop-at
invariant-loop-at l = quote_end name_item 0 l.s ≡ option_map (λ n. n + l.at) (quote_end name_item 0 (drop l.at l.s))

abbrev pub decreases-loop-at : goal.decreases-loop-at
decreases-loop-at l = length l.s - l.at
