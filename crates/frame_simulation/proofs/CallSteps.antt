pub mod Calls
pub use Rattle.frame_simulation.proofs.EdgeSteps.Edges
