use Rattle.frame_bounds.proofs.FrameLabels.Named.{function_named, own_differ}
use Rattle.frame_bounds.proofs.FrameLabels.Used.{function_uses}
use Rattle.frame_bounds.proofs.frame_labels.laws.labels_are_own.Goals as goal

pub returns : goal.returns
returns c = record {
  named = function_named;
  differ = own_differ;
  usable = function_uses;
}
