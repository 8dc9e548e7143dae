use Rattle.c_typing_initialiser_sound.proofs.CGlobalLaws.Places.{all_there}
use Rattle.c_typing_initialiser_sound.proofs.CGlobalLaws.Lawful.{all_lawful}
use Rattle.c_typing_initialiser_sound.proofs.c_global_laws.laws.globals_are_lawful.Goals as goal

pub returns-clause-there : goal.returns-clause-there
returns-clause-there c = all_there

pub returns-clause-lawful : goal.returns-clause-lawful
returns-clause-lawful c = all_lawful
