pub mod Starts
pub use Rattle.frame_simulation.specs.flat_runs.Runs
pub use Rattle.frame_simulation.specs.flat_runs.Builds
pub use Rattle.frame_simulation.specs.flat_runs.Matching
