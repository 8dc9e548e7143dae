use Rattle.std.proofs.Common.{◌≡◌, ◌≤◌, ◌++◌, length}
use Rattle.c_lexer.specs.Limits.{text_limit}
use Rattle.c_typing_literals.specs.Texts.{bytes_behind}
use Rattle.c_typing_literals.proofs.texts.put_items.Given as goal

abbrev pub invariant-loop-item : goal.invariant-loop-item
invariant-loop-item l = record {
  short : length l.rest ≤ text_limit;
  so_far : l.fn.bytes.items ++ bytes_behind 0 l.s ≡ l.bytes.items ++ bytes_behind 0 l.rest;
}

abbrev pub decreases-loop-item : goal.decreases-loop-item
decreases-loop-item l = length l.rest
