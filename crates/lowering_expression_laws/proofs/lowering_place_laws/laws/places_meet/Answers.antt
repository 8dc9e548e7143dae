use Rattle.lowering_expression_laws.proofs.LoweringPlaceLaws.Places as places
use Rattle.lowering_expression_laws.proofs.lowering_place_laws.laws.places_meet.Goals as goal

pub returns : goal.returns
returns g c found = record {
  statics = places.statics c found;
  locals = places.locals c found;
  targets = places.targets c found;
  members = places.members c found;
  arrows = places.arrows c found;
}
