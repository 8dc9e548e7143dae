use Rattle.std.proofs.Common.{◌≡◌, ◌≤◌, length}
use Rattle.alpha_items.specs.Layout.{sizes, IsForced}
use Rattle.alpha_asm.specs.model.Sweeps.{near}
use Rattle.alpha_asm.specs.model.Sums.{HoldsAtMost}
use Rattle.alpha_asm.proofs.spread.follow.Given as goal

abbrev pub invariant-loop-turn : goal.invariant-loop-turn
invariant-loop-turn l = record {
  far : length l.far ≡ length l.items;
  sums : HoldsAtMost (sizes l.items l.far) l.sums;
  forced : IsForced l.items l.fn.far → IsForced l.items l.far;
  fewer : near l.far ≤ near l.fn.far;
}
