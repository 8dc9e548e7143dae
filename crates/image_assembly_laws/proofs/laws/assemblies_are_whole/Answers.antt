use Rattle.image_assembly_laws.proofs.Whole.{assemblies-whole}
use Rattle.image_assembly_laws.proofs.laws.assemblies_are_whole.Goals as goal

pub returns : goal.returns
returns c = assemblies-whole
