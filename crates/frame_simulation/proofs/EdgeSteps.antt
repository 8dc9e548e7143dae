pub mod Edges
pub use Rattle.frame_simulation.proofs.PlacedSteps.Points
