use Rattle.c_typing_function_sound.proofs.CFoundStatementLaws.Functions.{function_tells}
use Rattle.c_typing_function_sound.proofs.c_found_statement_laws.laws.functions_are_found.Goals as goal

pub returns : goal.returns
returns c = function_tells
