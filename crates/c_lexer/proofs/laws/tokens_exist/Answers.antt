use Rattle.c_lexer.proofs.Exists.{tokens_exist}
use Rattle.c_lexer.proofs.laws.tokens_exist.Goals as goal

pub returns : goal.returns
returns c = tokens_exist c.args._text.now
