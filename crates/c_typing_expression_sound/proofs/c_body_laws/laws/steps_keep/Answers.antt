use Rattle.c_typing_expression_sound.proofs.CBodyLaws.Notes.{steps_keep}
use Rattle.c_typing_expression_sound.proofs.c_body_laws.laws.steps_keep.Goals as goal

pub returns : goal.returns
returns c = λ n later steps. steps_keep steps
