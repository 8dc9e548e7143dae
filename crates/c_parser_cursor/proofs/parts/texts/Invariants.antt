use Rattle.std.proofs.Common.{◌≡◌, [], length, ◌-◌}
use Rattle.c_parser_grammar.specs.ParseExpr.{texts_from}
use Rattle.c_parser_cursor.proofs.parts.texts.Given as goal

abbrev pub invariant-loop-turn : goal.invariant-loop-turn
invariant-loop-turn l = texts_from (length l.fn.tokens) [] l.fn.tokens ≡ texts_from (l._turn-end - l._turn) l.found l.tokens
