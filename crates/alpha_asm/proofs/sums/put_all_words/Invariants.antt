use Rattle.alpha_items.specs.Layout.{sizes}
use Rattle.alpha_asm.specs.model.Sums.{HoldsAtMost}
use Rattle.alpha_asm.proofs.sums.put_all_words.Given as goal

abbrev pub invariant-loop-i : goal.invariant-loop-i
invariant-loop-i l = HoldsAtMost (sizes l.items l.far) l.sums
