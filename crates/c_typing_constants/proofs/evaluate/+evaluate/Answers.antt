use Rattle.std.proofs.Common.{ap, ◌∙◌}
use Rattle.c_typing_constants.specs.model.Evaluations.{start, sequence}
use Rattle.c_typing_constants.proofs.Commas.{comma_done, last_more}
use Rattle.c_typing_constants.proofs.evaluate.+evaluate.Goals as goal

pub evaluate-returns-in-Comma : goal.evaluate-returns-in-Comma
evaluate-returns-in-Comma t c =
    comma_done c.args.e.now c.in-Comma.ty c.in-Comma.operands c.as_slice-list.result.now _ _ _ c.in-Comma.is
    c.as_slice-list.ensures c.is_nothing.ensures c.evaluate_all.ensures c.comma.ensures

pub evaluate_all-loop-operand-preserved : goal.evaluate_all-loop-operand-preserved
evaluate_all-loop-operand-preserved t c =
    last_more c.args.list.now c.loop-operand.operand-index c.operand-item.result start c.loop-operand.all
    c.sequence-all.result c.loop-operand-test.true c.operand-item.is c.loop-operand.invariant
    (c.sequence-all.ensures ∙ ap (sequence c.loop-operand.all) c.evaluate.ensures)
