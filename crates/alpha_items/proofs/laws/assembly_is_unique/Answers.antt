use Rattle.alpha_items.proofs.Unique.{far_unique, image_unique}
use Rattle.alpha_items.proofs.laws.assembly_is_unique.Goals as goal

pub returns-clause-far : goal.returns-clause-far
returns-clause-far c = far_unique

pub returns-clause-image : goal.returns-clause-image
returns-clause-image c = image_unique
