use Rattle.lowering_expression_laws.proofs.LoweringPlaceLaws.Accesses as accesses
use Rattle.lowering_expression_laws.proofs.lowering_place_laws.laws.accesses_meet.Goals as goal

pub returns : goal.returns
returns g c found = record {
  statics = accesses.statics c found;
  targets = accesses.targets c found;
  members = accesses.members c found;
  arrows = accesses.arrows c found;
  addresses = accesses.addresses c found;
}
