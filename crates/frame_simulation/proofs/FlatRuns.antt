pub mod Machines
pub mod Turns
pub mod Forward
pub mod Only
pub use Rattle.frame_simulation.proofs.FlatSteps.Lists
pub use Rattle.frame_simulation.proofs.FlatSteps.Edges
pub use Rattle.frame_simulation.proofs.FlatSteps.Begins
pub use Rattle.frame_simulation.proofs.FlatSteps.Paid
