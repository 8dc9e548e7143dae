-- So many words are made.
use Rattle.bk_bits.specs.model.Words.{AreMade}
use Rattle.bk_bits.proofs.words.take_over.Given as goal

abbrev pub invariant-loop-place : goal.invariant-loop-place
invariant-loop-place l = AreMade (λ w v. v) l.initial.words.items l.others l.words.items l.place
