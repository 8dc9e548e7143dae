use Rattle.c_parser_grammar.proofs.Exact.{refused_from}
use Rattle.c_parser_grammar.proofs.laws.refusals_are_exact.Goals as goal

pub returns : goal.returns
returns c = refused_from
