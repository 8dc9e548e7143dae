use Rattle.image_theorem.proofs.FlatStarts.Starts.{starts_are_matched}
use Rattle.image_theorem.proofs.flat_starts.laws.starts_are_matched.Goals as goal

pub returns : goal.returns
returns c = starts_are_matched
