use Rattle.lowering_code.proofs.Computed as it
use Rattle.lowering_code.proofs.examples.choices.Goals as goal

pub returns : goal.returns
returns g = record {
  and_needs_the_left = it.is-and_needs_the_left;
  or_needs_the_left = it.is-or_needs_the_left;
  one_arm_is_chosen = it.is-one_arm_is_chosen;
  commas_go_on = it.is-commas_go_on;
  left_before_right = it.is-left_before_right;
  step_gives_the_old = it.is-step_gives_the_old;
  prefix_gives_the_new = it.is-prefix_gives_the_new;
}
