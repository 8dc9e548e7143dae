use Rattle.std.proofs.Common.{◌≡◌, length, ◌-◌}
use Rattle.c_parser_grammar.specs.ParseExpr.{words_from}
use Rattle.c_parser_grammar.specs.WordSets.{no_words}
use Rattle.c_parser_cursor.proofs.specifiers.read_words.Given as goal

abbrev pub invariant-loop-turn : goal.invariant-loop-turn
invariant-loop-turn l = words_from (length l.fn.tokens) no_words l.fn.tokens ≡ words_from (l._turn-end - l._turn) l.set l.tokens
