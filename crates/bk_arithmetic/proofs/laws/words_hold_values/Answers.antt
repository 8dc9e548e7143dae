-- Values and words.
use Rattle.bk_arithmetic.proofs.LowBits.{value-extension, extension-again, extension-below}
use Rattle.bk_arithmetic.proofs.Values.{fits-value, value-word, word-value}
use Rattle.bk_arithmetic.proofs.laws.words_hold_values.Goals as goal

pub returns : goal.returns
returns c = record {
  fit = fits-value;
  read = value-word;
  held = word-value;
  value = value-extension;
  again = extension-again;
  below = extension-below;
}
