pub mod Starts
pub use Rattle.frame_simulation.proofs.FlatRuns.Machines
pub use Rattle.frame_simulation.proofs.FlatRuns.Forward
pub use Rattle.frame_simulation.proofs.FlatRuns.Only
