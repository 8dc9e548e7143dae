-- Sums and products, by their low bits.
use Rattle.alpha_isa.proofs.Arithmetic.{sign_extended-sum, sign_extended-product, signed-sum, signed-product, kept_bytes-long}
use Rattle.alpha_isa.proofs.laws.words_wrap.Goals as goal

pub returns : goal.returns
returns c = record {
  sum = sign_extended-sum;
  product = sign_extended-product;
  signed_sum = signed-sum;
  signed_product = signed-product;
  long = kept_bytes-long;
}
