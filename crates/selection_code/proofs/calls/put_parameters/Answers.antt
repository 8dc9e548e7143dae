use Rattle.std.proofs.Common.{[], ◌∷◌, ◌++◌, ap, ◌∙◌, arith}
use Rattle.selection_code.specs.Instructions.{take_item}
use Rattle.selection_code.proofs.Turns.{taken_turn}
use Rattle.selection_code.proofs.calls.put_parameters.Goals as goal

pub loop-number-preserved : goal.loop-number-preserved
loop-number-preserved c =
    let lt = c.loop-number-test.true in
    let put = c.in_ok-push.ensures.ok ∙ ap (λ z. c.loop-number.out ++ z ∷ []) (c.take_item.ensures ∙ ap (take_item c.loop-number.number) c.temp_of.ensures) in
    (omega (arith, lt), taken_turn c.args.count c.loop-number.number c.loop-number.out c.push.new.self _ lt put c.loop-number.invariant.1)
