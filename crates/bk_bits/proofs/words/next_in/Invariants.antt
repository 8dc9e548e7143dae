-- No word that was looked at holds a member.
use Rattle.bk_bits.proofs.Bits.{NoneBefore}
use Rattle.bk_bits.proofs.words.next_in.Given as goal

abbrev pub invariant-loop-place : goal.invariant-loop-place
invariant-loop-place l = NoneBefore l.words l.k l.place
