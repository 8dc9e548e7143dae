use Rattle.std.proofs.Common.{◌≡◌, take}
use Rattle.c_lexer.specs.Literals.{value_in}
use Rattle.c_typing_literals.specs.Integers.{word_of_number}
use Rattle.c_typing_literals.proofs.digits.value_of.Given as goal

abbrev pub invariant-loop-b : goal.invariant-loop-b
invariant-loop-b l = l.value ≡ word_of_number (value_in l.base (take l.b-index l.digits))
