-- What is answered is an operand again.
use Rattle.alpha_rt.proofs.Operands.{answers_operand}
use Rattle.alpha_rt.proofs.laws.answers_are_operands.Goals as goal

pub returns : goal.returns
returns c = answers_operand
