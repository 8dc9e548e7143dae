use Rattle.image_assembly_laws.proofs.Placed.{assemblies-have}
use Rattle.image_assembly_laws.proofs.laws.assemblies_have_programs.Goals as goal

pub returns : goal.returns
returns c = assemblies-have
