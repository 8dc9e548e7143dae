-- The routines on signed words of 32 bits.
use Rattle.alpha_rt.proofs.Signed.{divl_divides, reml_divides}
use Rattle.alpha_rt.proofs.laws.signed_longs_divide.Goals as goal

pub returns : goal.returns
returns c = record {
  quotient = divl_divides;
  remainder = reml_divides;
}
