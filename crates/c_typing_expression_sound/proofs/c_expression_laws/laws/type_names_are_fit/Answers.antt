use Rattle.c_typing_expression_sound.specs.c_expression_laws.Laws.{HasScope}
use Rattle.c_typing_expression_sound.proofs.CExpressionLaws.Expressions.{type_name_walks, derive_walks}
use Rattle.c_typing_expression_sound.proofs.c_expression_laws.laws.type_names_are_fit.Goals as goal

pub returns-clause-names : goal.returns-clause-names
returns-clause-names c = λ k lawful name s. type_name_walks k lawful (HasScope k s) name s (λ v. v.typedefs)

pub returns-clause-declarators : goal.returns-clause-declarators
returns-clause-declarators c = λ k lawful at node of s h. derive_walks k lawful (HasScope k s) at node of s (λ v. v.typedefs) (λ v known. h)
