use Rattle.c_types.proofs.CUnitObjectLaws.Goes.{steps_go}
use Rattle.c_types.proofs.CUnitObjectLaws.Meant.{steps_meant}
use Rattle.c_types.proofs.c_unit_object_laws.laws.names_are_meant.Goals as goal

pub returns-clause-walks : goal.returns-clause-walks
returns-clause-walks c = λ ds es w v h. steps_go ds h

pub returns-clause-meant : goal.returns-clause-meant
returns-clause-meant c = λ ds es structs w v h. steps_meant ds structs h
