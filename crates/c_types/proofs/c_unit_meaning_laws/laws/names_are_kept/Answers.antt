use Rattle.c_types.proofs.CUnitMeaningLaws.Names.{steps_mean}
use Rattle.c_types.proofs.CUnitMeaningLaws.Types.{steps_types}
use Rattle.c_types.proofs.c_unit_meaning_laws.laws.names_are_kept.Goals as goal

pub returns-clause-meanings : goal.returns-clause-meanings
returns-clause-meanings c = λ ds es w v h. steps_mean ds h

pub returns-clause-types : goal.returns-clause-types
returns-clause-types c = λ ds es w v h. steps_types ds h
