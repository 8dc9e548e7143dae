use Rattle.c_lexer.proofs.Once.{tokens_or_fault}
use Rattle.c_lexer.proofs.laws.tokens_or_fault.Goals as goal

pub returns : goal.returns
returns c = tokens_or_fault c.args._text.now
