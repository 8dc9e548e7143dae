pub mod Lists
pub mod Apart
pub mod Leads
pub use Rattle.frame_simulation.proofs.FlatSteps.Standing
