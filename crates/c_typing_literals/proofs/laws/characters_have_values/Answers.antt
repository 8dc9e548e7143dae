use Rattle.std.proofs.Common.{refl}
use Rattle.c_lexer.specs.Literals.{digit_value, value_in, byte, simple_value, octal_item, hex_item, escape_at, item_at}
use Rattle.c_typing_literals.proofs.laws.characters_have_values.Goals as goal

pub returns : goal.returns
unfolding digit_value value_in byte simple_value octal_item hex_item escape_at item_at
returns c = record {
  letter = refl;
  negative = refl;
  zero = refl;
  text = refl;
  empty = refl;
}
