use Rattle.c_typing_initialiser_sound.proofs.CInitialValueLaws.Cells.{value_put, text_put}
use Rattle.c_typing_initialiser_sound.proofs.c_initial_value_laws.laws.cells_are_lawful.Goals as goal

pub returns-clause-values : goal.returns-clause-values
returns-clause-values c = value_put

pub returns-clause-texts : goal.returns-clause-texts
returns-clause-texts c = text_put
