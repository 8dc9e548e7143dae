use Rattle.c_semantics.proofs.Behaviours.{endings_stay, one_ending, turns_are_one}
use Rattle.c_semantics.proofs.laws.endings_stay.Goals as goal

pub returns : goal.returns
returns g = record { more = endings_stay; one = one_ending; turns = turns_are_one }
