use Rattle.c_lexer.proofs.Once.{tokens_once}
use Rattle.c_lexer.proofs.laws.tokens_once.Goals as goal

pub returns : goal.returns
returns c = tokens_once c.args._text.now
