use Rattle.c_parser.proofs.OneAnswer.{one_cause}
use Rattle.c_parser.proofs.laws.one_cause.Goals as goal

pub returns : goal.returns
returns c = one_cause
