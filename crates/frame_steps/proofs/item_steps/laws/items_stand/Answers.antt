use Rattle.frame_steps.proofs.ItemSteps.Standing.{items_stand, labels_stand, labels_are_words, within, ahead, parts_stand}
use Rattle.frame_steps.proofs.item_steps.laws.items_stand.Goals as goal

pub returns : goal.returns
returns c = record {
  items = items_stand;
  labels = labels_stand;
  words = labels_are_words;
  ahead = record { ahead = ahead; within = within };
  parts = parts_stand;
}
