use Rattle.image_theorem.proofs.ImageRuns.Images.{images_keep}
use Rattle.image_theorem.proofs.image_runs.laws.images_keep.Goals as goal

pub returns : goal.returns
returns c = images_keep c.before.faithful_keeps_the_meaning.ensures.programs c.runs_go_on.ensures.kept.places
