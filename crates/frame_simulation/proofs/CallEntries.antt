pub mod Begins
pub mod Entering
pub mod Passing
pub use Rattle.frame_simulation.proofs.CallStacks.Stays
pub use Rattle.frame_simulation.proofs.CallStacks.Runs
