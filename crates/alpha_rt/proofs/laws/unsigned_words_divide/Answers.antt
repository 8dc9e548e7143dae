-- The routines on unsigned words.
use Rattle.alpha_rt.proofs.Unsigned.{divqu_divides, remqu_divides}
use Rattle.alpha_rt.proofs.laws.unsigned_words_divide.Goals as goal

pub returns : goal.returns
returns c = record {
  quotient = divqu_divides;
  remainder = remqu_divides;
}
