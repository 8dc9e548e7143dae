use Rattle.std.proofs.Common.{◌≡◌, ◌++◌}
use Rattle.c_parser_grammar.specs.Statements.{locals_of}
use Rattle.std.specs.Vec.Iter.{into_iter_items}
use Rattle.c_parser_statements.proofs.statements.push_locals.Given as goal

abbrev pub invariant-loop-local : goal.invariant-loop-local
invariant-loop-local l = l.found ++ locals_of (into_iter_items l.local-iterator) ≡ l.fn.found ++ locals_of l.fn.locals
