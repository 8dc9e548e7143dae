use Rattle.c_typing_expressions.proofs.Forms.{takes_done}
use Rattle.c_typing_expressions.proofs.expressions.+expression.Goals as goal

pub derive_function-returns : goal.derive_function-returns
derive_function-returns t c =
    takes_done c.args.whole.now c.args.at c.args.returned.now c.args.list.now c.args.of c.args.env.now c.enter-outside.new.env c.parameters.new.env c.leave.new.env c.derive.new.env
    c.enter-outside.result c.args.notes.now c.parameters.new.notes c.derive.new.notes c.function.new.notes _ _ c.function.result
    c.requires c.enter-outside.ensures.count c.enter-outside.ensures.entered c.in_ok-found.ensures c.leave.ensures c.in_ok-ty.ensures c.function.ensures
