pub mod Fits
pub use Rattle.frame_simulation.proofs.PlacedSteps.Points
