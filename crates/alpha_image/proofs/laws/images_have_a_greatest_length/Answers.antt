use Rattle.alpha_image.proofs.ImageLaws.{longest}
use Rattle.alpha_image.proofs.laws.images_have_a_greatest_length.Goals as goal

pub returns : goal.returns
returns c = longest
