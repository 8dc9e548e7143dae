-- The routines on signed words.
use Rattle.alpha_rt.proofs.Signed.{divq_divides, remq_divides}
use Rattle.alpha_rt.proofs.laws.signed_words_divide.Goals as goal

pub returns : goal.returns
returns c = record {
  quotient = divq_divides;
  remainder = remq_divides;
}
