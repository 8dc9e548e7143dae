use Rattle.c_typing_expression_sound.proofs.CStructLaws.Lawful.{struct_lawful, incomplete_lawful}
use Rattle.c_typing_expression_sound.proofs.c_struct_laws.laws.structs_are_lawful.Goals as goal

pub returns-clause-complete : goal.returns-clause-complete
returns-clause-complete c = λ known structs tag fields d k t e. struct_lawful structs known k tag fields d t e

pub returns-clause-incomplete : goal.returns-clause-incomplete
returns-clause-incomplete c = incomplete_lawful
