use Rattle.alpha_image.proofs.ImageLaws.{no_fault}
use Rattle.alpha_image.proofs.laws.images_have_no_fault.Goals as goal

pub returns : goal.returns
returns c = no_fault
