use Rattle.c_typing_expression_sound.proofs.CNoteLaws.Added.{steps_add}
use Rattle.c_typing_expression_sound.proofs.c_note_laws.laws.notes_are_only_added.Goals as goal

pub returns : goal.returns
returns c = λ n later steps. steps_add steps
