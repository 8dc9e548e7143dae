use Rattle.image_theorem.proofs.RoutinePlaces.Stand.{routines_stand}
use Rattle.image_theorem.proofs.routine_places.laws.routines_stand.Goals as goal

pub returns : goal.returns
returns c = routines_stand
