pub mod Lists
pub mod Fit
pub mod Labels
pub use Rattle.image_assembly_laws.proofs.Placed
pub use Rattle.image_assembly_laws.proofs.Near
