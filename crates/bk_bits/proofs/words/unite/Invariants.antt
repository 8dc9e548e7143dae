-- So many words are made, and it is known whether one of them grew.
use Rattle.std.proofs.Common.{◌≡◌}
use Rattle.std.specs.Prelude.{bit_or}
use Rattle.bk_bits.specs.model.Words.{AreMade, adds}
use Rattle.bk_bits.proofs.words.unite.Given as goal

abbrev pub invariant-loop-place : goal.invariant-loop-place
invariant-loop-place l =
    AreMade bit_or l.initial.words.items l.others l.words.items l.place
    × (l.grew ≡ adds l.initial.words.items l.others l.place)
