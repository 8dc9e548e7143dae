pub mod Points
pub use Rattle.frame_simulation.proofs.DivisionCalls.Stays
