use Rattle.std.proofs.Common.{◌≡◌, ◌≤◌, drop}
use Rattle.std.specs.Prelude.{fold}
use Rattle.c_lexer.specs.Literals.{digit_step}
use Rattle.c_lexer.proofs.literals.value_of.Given as goal

abbrev pub invariant-loop-b : goal.invariant-loop-b
invariant-loop-b l = record { small : l.value ≤ 255; so_far : fold (digit_step l.base) 0 l.digits ≡ fold (digit_step l.base) l.value (drop l.b-index l.digits) }
