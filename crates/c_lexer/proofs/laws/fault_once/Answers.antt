use Rattle.c_lexer.proofs.Once.{fault_once}
use Rattle.c_lexer.proofs.laws.fault_once.Goals as goal

pub returns : goal.returns
returns c = fault_once c.args._text.now
