use Rattle.c_typing_expression_sound.specs.c_expression_laws.Laws.{HasScope}
use Rattle.c_typing_expression_sound.proofs.CExpressionLaws.Expressions.{expression_typed, judge_walks}
use Rattle.c_typing_expression_sound.proofs.c_expression_laws.laws.expressions_are_typed.Goals as goal

pub returns-clause-typed : goal.returns-clause-typed
returns-clause-typed c = λ k lawful x s g known taken. expression_typed k lawful x s g.names g.typedefs known taken

pub returns-clause-walks : goal.returns-clause-walks
returns-clause-walks c = λ k lawful x s. judge_walks k lawful (HasScope k s) x s (λ v. v.names) (λ v. v.typedefs)
