use Rattle.c_typing_constants.proofs.Commas.{some_operand}
use Rattle.c_typing_constants.proofs.evaluate.is_nothing.Goals as goal

pub returns-in-len1-up : goal.returns-in-len1-up
returns-in-len1-up c = some_operand c.args.operands.now c.in-len1-up.len_at_least
