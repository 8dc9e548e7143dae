use Rattle.std.proofs.Common.{◌≡◌, length, ◌-◌}
use Rattle.c_parser_grammar.specs.Parser.{consts}
use Rattle.c_parser_cursor.proofs.cursor.Tokens.consts.Given as goal

abbrev pub invariant-loop-turn : goal.invariant-loop-turn
invariant-loop-turn l = consts (length l.fn.self) l.fn.self ≡ consts (l._turn-end - l._turn) l.self
