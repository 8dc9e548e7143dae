use Rattle.std.proofs.Common.{refl}
use Rattle.c_lexer.specs.Literals.{digit_value, value_in}
use Rattle.c_typing_literals.specs.Integers.{word_of_number}
use Rattle.c_typing_literals.proofs.laws.integers_have_types.Goals as goal

pub returns : goal.returns
unfolding digit_value value_in word_of_number
returns c = record {
  zero = refl;
  octal = refl;
  greatest_int = refl;
  past_int = refl;
  greatest_hexadecimal_int = refl;
  past_hexadecimal_int = refl;
  octal_long = refl;
  greatest_long = refl;
  past_long = refl;
  unsigned_past_long = refl;
  hexadecimal_past_long = refl;
  past_all = refl;
  unsigned = refl;
  past_unsigned = refl;
  long = refl;
  unsigned_long = refl;
}
