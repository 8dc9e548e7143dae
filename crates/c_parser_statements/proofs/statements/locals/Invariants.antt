use Rattle.std.proofs.Common.{◌≡◌, [], length, ◌-◌}
use Rattle.c_parser_grammar.specs.ParseExpr.{list_from}
use Rattle.c_parser_grammar.specs.ParseStatements.{local_declarator}
use Rattle.c_parser_statements.proofs.statements.locals.Given as goal

abbrev pub invariant-loop-turn : goal.invariant-loop-turn
invariant-loop-turn l = list_from (local_declarator l.scope l.depth l.base) (length l.fn.tokens) [] l.fn.tokens ≡ list_from (local_declarator l.scope l.depth l.base) (l._turn-end - l._turn) l.found l.tokens
