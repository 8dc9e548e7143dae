use Rattle.frame_bounds.proofs.Near.{plan_same, shape_same}
use Rattle.frame_bounds.proofs.laws.near_plans_are_the_same.Goals as goal

pub returns : goal.returns
returns c = record {
  plans = plan_same;
  shapes = shape_same;
}
