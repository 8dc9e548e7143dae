use Rattle.c_typing_expression_sound.proofs.CTypeLaws.Operators.{cast_to_typed, size_of_type_typed, take_typed, condition_taken}
use Rattle.c_typing_expression_sound.proofs.CTypeLaws.Places.{size_typed}
use Rattle.c_typing_expression_sound.proofs.CTypeLaws.Primary.{switch_typed}
use Rattle.c_typing_expression_sound.proofs.CTypeLaws.Values.{decay_typed}
use Rattle.c_typing_expression_sound.proofs.c_type_laws.laws.conversions_give_typed_values.Goals as goal

pub returns-clause-casts : goal.returns-clause-casts
returns-clause-casts c = cast_to_typed

pub returns-clause-sizes : goal.returns-clause-sizes
returns-clause-sizes c = λ k. size_typed k

pub returns-clause-names : goal.returns-clause-names
returns-clause-names c = λ k. size_of_type_typed k

pub returns-clause-values : goal.returns-clause-values
returns-clause-values c = take_typed

pub returns-clause-conditions : goal.returns-clause-conditions
returns-clause-conditions c = condition_taken

pub returns-clause-switches : goal.returns-clause-switches
returns-clause-switches c = switch_typed

pub returns-clause-decay : goal.returns-clause-decay
returns-clause-decay c = λ k a h. (decay_typed k a h).typed
