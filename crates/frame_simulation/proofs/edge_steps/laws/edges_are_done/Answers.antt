use Rattle.frame_simulation.proofs.EdgeSteps.Edges.{edges_are_done, jumps_are_done_here, ends_are_done, blocks_are_entered}
use Rattle.frame_simulation.proofs.edge_steps.laws.edges_are_done.Goals as goal

pub returns : goal.returns
returns c = record { edges = edges_are_done; jumps = jumps_are_done_here; ends = ends_are_done; blocks = blocks_are_entered }
