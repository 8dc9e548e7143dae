-- So many words are made.
use Rattle.std.specs.Prelude.{bit_and}
use Rattle.std.specs.Int.{w64, bit_not}
use Rattle.bk_bits.specs.model.Words.{AreMade}
use Rattle.bk_bits.proofs.words.take_away.Given as goal

abbrev pub invariant-loop-place : goal.invariant-loop-place
invariant-loop-place l =
    AreMade (λ w v. bit_and w (bit_not w64 v)) l.initial.words.items l.others l.words.items l.place
