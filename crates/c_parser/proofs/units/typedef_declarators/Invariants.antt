use Rattle.std.proofs.Common.{◌≡◌, [], length, ◌-◌}
use Rattle.c_parser_grammar.specs.ParseUnits.{typedefs_from}
use Rattle.c_parser.proofs.units.typedef_declarators.Given as goal

abbrev pub invariant-loop-turn : goal.invariant-loop-turn
invariant-loop-turn l = typedefs_from l.fn.scope l.depth (length l.fn.tokens) l.fn.base [] l.fn.tokens ≡ typedefs_from l.scope l.depth (l._turn-end - l._turn) l.ty l.found l.tokens
