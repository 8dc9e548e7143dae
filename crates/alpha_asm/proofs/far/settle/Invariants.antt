use Rattle.std.proofs.Common.{◌≡◌, ◌+◌, length}
use Rattle.alpha_items.specs.Layout.{IsForced}
use Rattle.alpha_asm.specs.model.Sweeps.{near}
use Rattle.alpha_asm.proofs.far.settle.Given as goal

abbrev pub invariant-loop-alloc : goal.invariant-loop-alloc
invariant-loop-alloc l = record {
  far : length l.far ≡ length l.items;
  places : length l.places ≡ length l.items + 1;
  forced : IsForced l.items l.far;
}

abbrev pub decreases-loop-alloc : goal.decreases-loop-alloc
decreases-loop-alloc l = near l.far
