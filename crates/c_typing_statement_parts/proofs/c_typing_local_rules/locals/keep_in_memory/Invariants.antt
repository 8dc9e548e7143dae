use Rattle.std.proofs.Common.{◌≡◌, drop}
use Rattle.c_typing_statement_parts.specs.c_typing_local_rules.Locals.{with_addressed}
use Rattle.c_typing_statement_parts.proofs.c_typing_local_rules.locals.keep_in_memory.Given as goal

abbrev pub invariant-loop-number : goal.invariant-loop-number
invariant-loop-number l =
    with_addressed l.numbers l.fn.locals ≡ with_addressed (drop l.number-index l.numbers) l.items.items
