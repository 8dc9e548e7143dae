-- The routines on unsigned words of 32 bits.
use Rattle.alpha_rt.proofs.Long.{divlu_divides, remlu_divides}
use Rattle.alpha_rt.proofs.laws.unsigned_longs_divide.Goals as goal

pub returns : goal.returns
returns c = record {
  quotient = divlu_divides;
  remainder = remlu_divides;
}
