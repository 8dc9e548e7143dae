use Rattle.c_typing_function_sound.proofs.CStatementRuleLaws.Parts.{condition_typed_in, switch_typed_in, expression_value, return_typed, empty_typed, initialiser_typed}
use Rattle.c_typing_function_sound.proofs.c_statement_rule_laws.laws.parts_of_statements_are_typed.Goals as goal

pub returns-clause-conditions : goal.returns-clause-conditions
returns-clause-conditions c = condition_typed_in

pub returns-clause-switches : goal.returns-clause-switches
returns-clause-switches c = switch_typed_in

pub returns-clause-expressions : goal.returns-clause-expressions
returns-clause-expressions c = expression_value

pub returns-clause-returns : goal.returns-clause-returns
returns-clause-returns c = return_typed

pub returns-clause-empty : goal.returns-clause-empty
returns-clause-empty c = empty_typed

pub returns-clause-initialisers : goal.returns-clause-initialisers
returns-clause-initialisers c = initialiser_typed
