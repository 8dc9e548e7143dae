use Rattle.std.proofs.Common.{◌≡◌, [], length, ◌-◌}
use Rattle.c_parser_grammar.specs.ParseSpecifiers.{declarators_from}
use Rattle.c_parser_specifiers.proofs.braces.member_declarators.Given as goal

abbrev pub invariant-loop-turn : goal.invariant-loop-turn
invariant-loop-turn l = declarators_from l.scope l.depth (length l.fn.tokens) l.fn.base [] l.fn.tokens ≡ declarators_from l.scope l.depth (l._turn-end - l._turn) l.ty l.found l.tokens
