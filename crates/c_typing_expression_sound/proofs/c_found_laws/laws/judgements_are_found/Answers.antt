use Rattle.c_typing_expression_sound.proofs.CFoundLaws.Forms.{leaf_tells}
use Rattle.c_typing_expression_sound.proofs.CFoundLaws.Walks.{judge_tells, derive_tells}
use Rattle.c_typing_expression_sound.proofs.c_found_laws.laws.judgements_are_found.Goals as goal

pub returns-clause-expressions : goal.returns-clause-expressions
returns-clause-expressions c = judge_tells

pub returns-clause-specifiers : goal.returns-clause-specifiers
returns-clause-specifiers c = leaf_tells

pub returns-clause-declarators : goal.returns-clause-declarators
returns-clause-declarators c = derive_tells
