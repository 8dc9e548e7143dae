-- Sign extension, by its low bits.
use Rattle.alpha_isa.proofs.Arithmetic.{sign_extended-low, sign_extended-below, sign_extended-again, signed-sign_extended, signed-word_from}
use Rattle.alpha_isa.proofs.laws.words_extend.Goals as goal

pub returns : goal.returns
returns c = record {
  low = sign_extended-low;
  below = sign_extended-below;
  again = sign_extended-again;
  number = signed-sign_extended;
  read = signed-word_from;
}
