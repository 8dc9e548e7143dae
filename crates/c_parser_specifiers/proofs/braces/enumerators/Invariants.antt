use Rattle.std.proofs.Common.{◌≡◌, [], length, ◌-◌}
use Rattle.c_parser_grammar.specs.ParseSpecifiers.{enumerator, braced_list_from}
use Rattle.c_parser_specifiers.proofs.braces.enumerators.Given as goal

abbrev pub invariant-loop-turn : goal.invariant-loop-turn
invariant-loop-turn l = braced_list_from (enumerator l.scope l.depth) (length l.fn.tokens) [] l.fn.tokens ≡ braced_list_from (enumerator l.scope l.depth) (l._turn-end - l._turn) l.found l.tokens
