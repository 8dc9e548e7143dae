use Rattle.std.proofs.Common.{◌<◌, length}
use Rattle.alpha_items.specs.Layout.{sizes}
use Rattle.alpha_asm.specs.model.Sums.{HoldsAtMost}
use Rattle.alpha_asm.proofs.sums.change_words.Given as goal

abbrev pub invariant-loop-node : goal.invariant-loop-node
invariant-loop-node l = record {
  inside : l.node < length l.sums;
  sums : HoldsAtMost (sizes l.items l.far) l.sums;
}

abbrev pub decreases-loop-node : goal.decreases-loop-node
decreases-loop-node l = l.node
