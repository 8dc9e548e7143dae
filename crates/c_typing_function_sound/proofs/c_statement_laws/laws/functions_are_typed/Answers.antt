use Rattle.c_typing_function_sound.proofs.CStatementLaws.Functions.{function_typed, function_leaves}
use Rattle.c_typing_function_sound.proofs.c_statement_laws.laws.functions_are_typed.Goals as goal

pub returns-clause-typed : goal.returns-clause-typed
returns-clause-typed c = function_typed

pub returns-clause-leaves : goal.returns-clause-leaves
returns-clause-leaves c = function_leaves
