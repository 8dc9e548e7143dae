use Rattle.compiler.proofs.Images.{images_are_correct}
use Rattle.compiler.proofs.laws.images_are_correct.Goals as goal

pub returns : goal.returns
returns c =
    images_are_correct c.assemblies_have_programs.ensures c.units_behave_alike.ensures c.units_end_soon.ensures
