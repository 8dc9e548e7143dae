use Rattle.alpha_image.proofs.ImageFronts.{front_fault}
use Rattle.alpha_image.proofs.laws.long_bytes_show_their_fault.Goals as goal

pub returns : goal.returns
returns c = front_fault
