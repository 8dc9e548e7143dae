use Rattle.call_images.proofs.ExecuteImages.{executed_image, accepted_image}
use Rattle.call_images.proofs.laws.an_image_is_executed.Goals as goal

pub returns : goal.returns
returns c = record { answers = executed_image; accepts = accepted_image }
