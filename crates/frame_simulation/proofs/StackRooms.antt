pub mod Rooms
pub use Rattle.frame_simulation.proofs.CallEntries.Begins
pub use Rattle.frame_simulation.proofs.CallEntries.Runs
