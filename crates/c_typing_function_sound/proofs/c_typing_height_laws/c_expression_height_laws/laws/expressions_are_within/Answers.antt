use Rattle.c_typing_function_sound.proofs.CTypingHeightLaws.CExpressionHeightLaws.Walks.{judge_within}
use Rattle.c_typing_function_sound.proofs.c_typing_height_laws.c_expression_height_laws.laws.expressions_are_within.Goals as goal

pub returns : goal.returns
returns c = judge_within
