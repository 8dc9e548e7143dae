use Rattle.c_typing_expression_sound.specs.c_judgement_laws.Covers.{HasNames}
use Rattle.c_typing_expression_sound.proofs.CJudgementLaws.Forms.{cast_judged, size_judged, size_name_judged, field_judged, arrow_judged}
use Rattle.c_typing_expression_sound.proofs.c_judgement_laws.laws.casts_and_members_find_typed_values.Goals as goal

pub returns-clause-casts : goal.returns-clause-casts
returns-clause-casts c = λ k lawful env. cast_judged k lawful (HasNames k env)

pub returns-clause-sizes : goal.returns-clause-sizes
returns-clause-sizes c = λ k lawful env. size_judged k lawful (HasNames k env)

pub returns-clause-names : goal.returns-clause-names
returns-clause-names c = λ k lawful env. size_name_judged k lawful (HasNames k env)

pub returns-clause-fields : goal.returns-clause-fields
returns-clause-fields c = λ k lawful env. field_judged k lawful (HasNames k env)

pub returns-clause-arrows : goal.returns-clause-arrows
returns-clause-arrows c = λ k lawful env. arrow_judged k lawful (HasNames k env)
