use Rattle.c_typing_expression_sound.proofs.CBodyLaws.Notes.{noted_known}
use Rattle.c_typing_expression_sound.proofs.c_body_laws.laws.noted_is_known.Goals as goal

pub returns : goal.returns
returns c = noted_known
