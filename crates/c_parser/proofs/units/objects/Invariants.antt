use Rattle.std.proofs.Common.{◌≡◌, length, ◌-◌}
use Rattle.c_parser_grammar.specs.ParseUnits.{objects_from}
use Rattle.c_parser.proofs.units.objects.Given as goal

abbrev pub invariant-loop-turn : goal.invariant-loop-turn
invariant-loop-turn l = objects_from l.scope l.depth l.storage (length l.fn.tokens) l.fn.base l.fn.found l.fn.tokens ≡ objects_from l.scope l.depth l.storage (l._turn-end - l._turn) l.ty l.found l.tokens
