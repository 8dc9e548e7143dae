use Rattle.c_typing_function_sound.proofs.CTypingHeightLaws.CStatementHeightLaws.Statements.{function_within}
use Rattle.c_typing_function_sound.proofs.c_typing_height_laws.c_statement_height_laws.laws.functions_are_within.Goals as goal

pub returns : goal.returns
returns c = function_within
