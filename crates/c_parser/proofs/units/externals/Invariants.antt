use Rattle.std.proofs.Common.{◌≡◌, [], length, ◌-◌}
use Rattle.c_parser_grammar.specs.ParseUnits.{externals_from}
use Rattle.c_parser.proofs.units.externals.Given as goal

abbrev pub invariant-loop-turn : goal.invariant-loop-turn
invariant-loop-turn l = externals_from (length l.fn.tokens) l.fn.scope [] l.fn.tokens ≡ externals_from (l._turn-end - l._turn) l.scope l.found l.tokens
