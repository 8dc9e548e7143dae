use Rattle.image_assembly_laws.proofs.Exact.{assemblies-exact}
use Rattle.image_assembly_laws.proofs.laws.assemblies_are_exact.Goals as goal

pub returns : goal.returns
returns c = assemblies-exact
