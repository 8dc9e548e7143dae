use Rattle.c_typing_initialiser_sound.proofs.CInitialiserLaws.Walks.{object_lawful, object_leaves}
use Rattle.c_typing_initialiser_sound.proofs.c_initialiser_laws.laws.initialisers_are_lawful.Goals as goal

pub returns-clause-cells : goal.returns-clause-cells
returns-clause-cells c = object_lawful

pub returns-clause-leaves : goal.returns-clause-leaves
returns-clause-leaves c = object_leaves
