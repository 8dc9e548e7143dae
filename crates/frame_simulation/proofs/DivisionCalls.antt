pub mod Divisions
pub mod Scratch
pub use Rattle.frame_simulation.proofs.CallStacks.Stays
pub use Rattle.frame_simulation.proofs.CallStacks.Instructions
pub use Rattle.frame_simulation.proofs.CallStacks.Runs
