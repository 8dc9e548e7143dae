pub mod Images
pub use Rattle.image_theorem.specs.flat_starts.Runs
pub use Rattle.image_theorem.specs.flat_starts.Builds
