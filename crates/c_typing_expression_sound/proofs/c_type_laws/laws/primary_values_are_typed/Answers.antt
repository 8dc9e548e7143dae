use Rattle.bk_arithmetic.specs.declared.integer_type.IntegerType.TheVariants.{Int}
use Rattle.c_typing_expression_sound.proofs.CTypeLaws.Primary.{integer_constant_typed, character_constant_typed, local_typed, object_typed, call_typed}
use Rattle.c_typing_expression_sound.proofs.CTypeLaws.Places.{number_typed}
use Rattle.c_typing_expression_sound.proofs.c_type_laws.laws.primary_values_are_typed.Goals as goal

pub returns-clause-integers : goal.returns-clause-integers
returns-clause-integers c = integer_constant_typed

pub returns-clause-characters : goal.returns-clause-characters
returns-clause-characters c = character_constant_typed

pub returns-clause-enumerators : goal.returns-clause-enumerators
returns-clause-enumerators c = λ k at word h. number_typed k at Int word h

pub returns-clause-locals : goal.returns-clause-locals
returns-clause-locals c = local_typed

pub returns-clause-objects : goal.returns-clause-objects
returns-clause-objects c = object_typed

pub returns-clause-calls : goal.returns-clause-calls
returns-clause-calls c = call_typed
