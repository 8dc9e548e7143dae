use Rattle.std.proofs.Common.{◌∙◌, arith}
use Rattle.selection_forms.proofs.AlphaCopies.Turns.{next_turn}
use Rattle.selection_forms.proofs.alpha_copies.copies.put_copy.Goals as goal

pub loop-part-preserved : goal.loop-part-preserved
loop-part-preserved c =
    let lt = c.loop-part-test.true in
    (omega (arith, lt), c.in_ok-place.ensures.small, next_turn c.args.align _ c.loop-part._part _ _ _ _ _ _ _ _ lt c.in_ok-place.ensures.put ∙ c.loop-part.invariant.2)
