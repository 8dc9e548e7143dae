use Rattle.alpha_items.specs.Layout.{IsForced}
use Rattle.alpha_asm.specs.model.Sweeps.{SweptBack, GrowsWhere}
use Rattle.alpha_asm.proofs.far.sweep_back.Given as goal

abbrev pub invariant-loop-i : goal.invariant-loop-i
invariant-loop-i l = record {
  swept : SweptBack l.items l.far l.places l.i;
  forced : IsForced l.items l.fn.far → IsForced l.items l.far;
  grown : GrowsWhere l.fn.far l.far l.grew;
}
