pub mod Runs
pub use Rattle.frame_simulation.specs.flat_steps.Builds
pub use Rattle.frame_simulation.specs.flat_steps.Matching
pub use Rattle.frame_simulation.specs.flat_steps.Items
pub use Rattle.frame_simulation.specs.flat_steps.Entering
pub use Rattle.frame_simulation.specs.flat_steps.Stacks
