use Rattle.c_parser.proofs.OneAnswer.{read_or_refused}
use Rattle.c_parser.proofs.laws.read_or_refused.Goals as goal

pub returns : goal.returns
returns c = read_or_refused
