-- The outcomes of refusals below.
use Rattle.alpha_image.specs.declared.read.ImageFault.{ImageFault}
use Rattle.alpha_image.specs.declared.read.ImageFault.TheVariants as image
use Rattle.call_outcomes.specs.declared.outcome.Outcome.{Outcome}
use Rattle.call_outcomes.specs.declared.outcome.Outcome.TheVariants.{BadImage, NoMemory}

-- the outcome where bytes are not read as an image
abbrev pub outcome_of_image_fault : ImageFault → Outcome
outcome_of_image_fault (image.BadImage at) = BadImage at
outcome_of_image_fault image.NoMemory = NoMemory
