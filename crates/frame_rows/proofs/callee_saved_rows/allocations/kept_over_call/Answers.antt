use Rattle.std.proofs.Common.{[], ◌∷◌, ◌∙◌, sym, ap}
use Rattle.std.specs.Int.{w16}
use Rattle.std.proofs.lemmas.Int.{to_z-of_z}
use Rattle.frame_rows.specs.callee_saved_rows.Keeping as spec
use Rattle.frame_rows.proofs.CalleeSavedRows.Kept.{faithful_so, plan_is}
use Rattle.frame_rows.proofs.callee_saved_rows.allocations.kept_over_call.Goals as goal

pub returns-clause-plan : goal.returns-clause-plan
returns-clause-plan c =
    plan_is c.args.register c.args.value c.args.callee _ _ _ _ _ _ _ _ _ c.in_ok-function.ensures.params c.in_ok-function.ensures.temps c.in_ok-function.ensures.objects (c.in_ok-function.ensures.blocks ∙ ap (λ v. spec.kept_sum v c.args.callee ∷ []) (to_z-of_z w16 c.args.value c.ranges.value))
    c.in_ok-top.ensures c.in_ok-bottom.ensures c.in_ok-at.ensures (c.in_ok-regs.ensures ∙ ap spec.stated_registers c.number.ensures) c.new.ensures

pub returns-clause-faithful : goal.returns-clause-faithful
returns-clause-faithful c = faithful_so c.args.register c.args.value c.args.callee _ (sym (returns-clause-plan c))
