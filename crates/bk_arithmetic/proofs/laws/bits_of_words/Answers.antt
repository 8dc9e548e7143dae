-- The operators on bits, of words of a type.
use Rattle.bk_arithmetic.proofs.Bits.{conjunction-words, disjunction-words, exclusive-words}
use Rattle.bk_arithmetic.proofs.laws.bits_of_words.Goals as goal

pub returns : goal.returns
returns c = record {
  and = conjunction-words;
  or = disjunction-words;
  exclusive_or = exclusive-words;
}
