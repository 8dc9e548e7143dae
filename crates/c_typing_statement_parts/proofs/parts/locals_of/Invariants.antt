use Rattle.std.proofs.Common.{◌≡◌, [], Some, drop}
use Rattle.c_typing_state.specs.Checks.{walk}
use Rattle.c_typing_statement_parts.specs.Parts.{local_of}
use Rattle.c_typing_statement_parts.proofs.parts.locals_of.Given as goal

abbrev pub invariant-loop-local : goal.invariant-loop-local
invariant-loop-local l = walk local_of l.list (Some []) (l.fn.locals, (l.fn.env, l.fn.notes)) ≡ walk local_of (drop l.local-index l.list) l.found (l.locals, (l.env, l.notes))
