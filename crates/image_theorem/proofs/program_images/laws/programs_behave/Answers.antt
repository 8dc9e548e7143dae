use Rattle.image_theorem.proofs.ProgramImages.Programs.{programs_behave}
use Rattle.image_theorem.proofs.program_images.laws.programs_behave.Goals as goal

pub returns : goal.returns
returns c = programs_behave c.images_keep.ensures
