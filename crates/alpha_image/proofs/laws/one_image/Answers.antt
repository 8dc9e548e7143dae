use Rattle.alpha_image.proofs.ImageLaws.{one}
use Rattle.alpha_image.proofs.laws.one_image.Goals as goal

pub returns : goal.returns
returns c = one
