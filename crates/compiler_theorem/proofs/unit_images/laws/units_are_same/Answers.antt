use Rattle.image_theorem.proofs.SameRuns.Same.{runs_are_same}
use Rattle.compiler_theorem.proofs.UnitImages.Units.{units_are_same}
use Rattle.compiler_theorem.proofs.unit_images.laws.units_are_same.Goals as goal

pub returns : goal.returns
returns c = units_are_same c.programs_behave.ensures runs_are_same
