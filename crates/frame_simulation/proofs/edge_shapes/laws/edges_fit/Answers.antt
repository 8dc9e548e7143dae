use Rattle.frame_simulation.proofs.EdgeShapes.Fits.{targets_fit, ends_fit}
use Rattle.frame_simulation.proofs.EdgeShapes.Tops.{tops_fit}
use Rattle.frame_simulation.proofs.edge_shapes.laws.edges_fit.Goals as goal

pub returns : goal.returns
returns c = record { targets = targets_fit; ends = ends_fit; tops = tops_fit }
