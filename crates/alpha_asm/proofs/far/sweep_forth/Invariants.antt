use Rattle.alpha_items.specs.Layout.{IsForced}
use Rattle.alpha_asm.specs.model.Sweeps.{SweptForth, GrowsWhere}
use Rattle.alpha_asm.proofs.far.sweep_forth.Given as goal

abbrev pub invariant-loop-i : goal.invariant-loop-i
invariant-loop-i l = record {
  swept : SweptForth l.items l.far l.rests l.i;
  forced : IsForced l.items l.fn.far → IsForced l.items l.far;
  grown : GrowsWhere l.fn.far l.far l.grew;
}
