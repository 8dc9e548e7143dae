use Rattle.std.proofs.Common.{sym, ◌∙◌}
use Rattle.std.specs.Vec.Iter.{into_iter_items}
use Rattle.alpha_select.proofs.Turns.{turn_within, turn_more, turn_last, fields_fit}
use Rattle.alpha_select.proofs.in_turn.select_each.Goals as goal

pub select_function-requires : goal.select_function-requires
select_function-requires c = turn_within c.args.functions _ _ c.loop-f.selected c.in-Some.f c.loop-f.invariant c.in-Some.ensures.steps.0

pub loop-f-preserved : goal.loop-f-preserved
loop-f-preserved c =
    turn_more c.args.functions _ _ c.loop-f.selected _ c.in-Some.f _ c.loop-f.invariant c.in-Some.ensures.steps.0
    c.in_ok-select_function.ensures.selected c.in_ok-select_function.ensures.fields c.in_ok-push.ensures.ok

pub returns-clause-selected : goal.returns-clause-selected
returns-clause-selected c =
    let left = c.loop-f.f-iterator in
    turn_last c.args.functions (into_iter_items left) c.loop-f.selected c.loop-f.invariant (sym left.rest.ok.0 ∙ c.in-None.ensures.steps.0)

pub returns-clause-fields : goal.returns-clause-fields
returns-clause-fields c =
    let left = c.loop-f.f-iterator in
    fields_fit c.args.functions (into_iter_items left) c.loop-f.selected c.loop-f.invariant (sym left.rest.ok.0 ∙ c.in-None.ensures.steps.0)
