use Rattle.frame_steps.proofs.ItemSteps.Steps.{steps_add_up, plain_steps, plain_ends, text_address_steps, data_address_steps, branches_step}
use Rattle.frame_steps.proofs.item_steps.laws.items_step.Goals as goal

pub returns : goal.returns
returns c = record {
  sum = steps_add_up;
  plain = plain_steps;
  ends = plain_ends;
  addresses = record { text = text_address_steps; data_address = data_address_steps };
  branches = branches_step;
}
