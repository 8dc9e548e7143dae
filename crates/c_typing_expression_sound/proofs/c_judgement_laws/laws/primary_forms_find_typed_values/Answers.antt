use Rattle.c_typing_expression_sound.specs.c_judgement_laws.Covers.{HasNames}
use Rattle.c_typing_state.specs.Scopes.{meaning_of}
use Rattle.c_typing_expression_sound.proofs.CJudgementLaws.Forms.{integer_judged, character_judged, string_judged, name_judged}
use Rattle.c_typing_expression_sound.proofs.CJudgementLaws.Calls.{call_judged}
use Rattle.c_typing_expression_sound.proofs.c_judgement_laws.laws.primary_forms_find_typed_values.Goals as goal

pub returns-clause-integers : goal.returns-clause-integers
returns-clause-integers c = λ k lawful env. integer_judged k lawful (HasNames k env)

pub returns-clause-characters : goal.returns-clause-characters
returns-clause-characters c = λ k lawful env. character_judged k lawful (HasNames k env)

pub returns-clause-texts : goal.returns-clause-texts
returns-clause-texts c = λ k lawful env. string_judged k lawful (HasNames k env)

pub returns-clause-names : goal.returns-clause-names
returns-clause-names c = λ k lawful env at name n. name_judged k lawful (HasNames k env) at (meaning_of env name) n (λ v. v name)

pub returns-clause-calls : goal.returns-clause-calls
returns-clause-calls c = λ k env at name args n h. call_judged k (HasNames k env) at (meaning_of env name) args n (λ v. v name) h
