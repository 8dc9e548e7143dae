use Rattle.c_typing_expression_sound.proofs.CTypeLaws.Operators.{subscript_typed}
use Rattle.c_typing_expression_sound.proofs.CTypeLaws.Places.{field_typed, arrow_typed}
use Rattle.c_typing_expression_sound.proofs.c_type_laws.laws.parts_are_typed.Goals as goal

pub returns-clause-elements : goal.returns-clause-elements
returns-clause-elements c = subscript_typed

pub returns-clause-fields : goal.returns-clause-fields
returns-clause-fields c = field_typed

pub returns-clause-arrows : goal.returns-clause-arrows
returns-clause-arrows c = arrow_typed
