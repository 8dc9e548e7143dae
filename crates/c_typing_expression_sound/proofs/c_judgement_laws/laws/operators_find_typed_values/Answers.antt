use Rattle.c_typing_expression_sound.specs.c_judgement_laws.Covers.{HasNames}
use Rattle.c_typing_expression_sound.proofs.CJudgementLaws.Forms.{prefix_judged, between_judged, assignment_judged, element_judged, choice_judged, behind_judged, commas_judged}
use Rattle.c_typing_expression_sound.proofs.c_judgement_laws.laws.operators_find_typed_values.Goals as goal

pub returns-clause-prefixes : goal.returns-clause-prefixes
returns-clause-prefixes c = λ k lawful env. prefix_judged k lawful (HasNames k env)

pub returns-clause-between : goal.returns-clause-between
returns-clause-between c = λ k lawful env. between_judged k lawful (HasNames k env)

pub returns-clause-assignments : goal.returns-clause-assignments
returns-clause-assignments c = λ k lawful env. assignment_judged k lawful (HasNames k env)

pub returns-clause-elements : goal.returns-clause-elements
returns-clause-elements c = λ k lawful env. element_judged k lawful (HasNames k env)

pub returns-clause-choices : goal.returns-clause-choices
returns-clause-choices c = λ k lawful env. choice_judged k lawful (HasNames k env)

pub returns-clause-steps : goal.returns-clause-steps
returns-clause-steps c = λ k lawful env. behind_judged k lawful (HasNames k env)

pub returns-clause-commas : goal.returns-clause-commas
returns-clause-commas c = λ k lawful env. commas_judged k lawful (HasNames k env)
