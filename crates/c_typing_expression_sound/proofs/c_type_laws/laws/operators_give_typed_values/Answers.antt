use Rattle.c_typing_expression_sound.proofs.CTypeLaws.Operators.{unary_typed, binary_typed, assign_typed, conditional_typed}
use Rattle.c_typing_expression_sound.proofs.CTypeLaws.Places.{step_behind_typed}
use Rattle.c_typing_expression_sound.proofs.CTypeLaws.Primary.{comma_typed}
use Rattle.c_typing_expression_sound.proofs.c_type_laws.laws.operators_give_typed_values.Goals as goal

pub returns-clause-unary : goal.returns-clause-unary
returns-clause-unary c = unary_typed

pub returns-clause-binary : goal.returns-clause-binary
returns-clause-binary c = binary_typed

pub returns-clause-assignments : goal.returns-clause-assignments
returns-clause-assignments c = assign_typed

pub returns-clause-choices : goal.returns-clause-choices
returns-clause-choices c = conditional_typed

pub returns-clause-steps : goal.returns-clause-steps
returns-clause-steps c = step_behind_typed

pub returns-clause-commas : goal.returns-clause-commas
returns-clause-commas c = comma_typed
