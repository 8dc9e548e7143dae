use Rattle.c_parser.proofs.OneAnswer.{one_tree}
use Rattle.c_parser.proofs.laws.one_tree.Goals as goal

pub returns : goal.returns
returns c = one_tree
