use Rattle.std.proofs.Common.{◌≡◌, [], length, ◌+◌, ◌-◌, ◌*◌}
use Rattle.c_parser_grammar.specs.ParseSpecifiers.{braced_list_from}
use Rattle.c_parser_grammar.specs.ParseUnits.{init}
use Rattle.c_parser.proofs.units.+init.Given as goal

abbrev pub invariant-inits-loop-turn : goal.invariant-inits-loop-turn
invariant-inits-loop-turn l = braced_list_from (init l.scope l.depth) (length l.fn.tokens) [] l.fn.tokens ≡ braced_list_from (init l.scope l.depth) (l._turn-end - l._turn) l.found l.tokens

abbrev pub decreases-init : goal.decreases-init
decreases-init l = 10 * l.depth

abbrev pub decreases-inits : goal.decreases-inits
decreases-inits l = 10 * l.depth + 1
