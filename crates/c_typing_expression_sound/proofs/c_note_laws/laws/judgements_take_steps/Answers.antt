use Rattle.c_typing_expression_sound.proofs.CNoteLaws.Walks.{judge_adds, derive_adds}
use Rattle.c_typing_expression_sound.proofs.CNoteLaws.Forms.{leaf_adds}
use Rattle.c_typing_expression_sound.proofs.c_note_laws.laws.judgements_take_steps.Goals as goal

pub returns-clause-expressions : goal.returns-clause-expressions
returns-clause-expressions c = judge_adds

pub returns-clause-specifiers : goal.returns-clause-specifiers
returns-clause-specifiers c = leaf_adds

pub returns-clause-declarators : goal.returns-clause-declarators
returns-clause-declarators c = derive_adds
