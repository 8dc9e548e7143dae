pub mod Leads
pub use Rattle.frame_simulation.specs.flat_steps.Leaving
pub use Rattle.frame_simulation.specs.flat_steps.Shapes
pub use Rattle.frame_simulation.specs.flat_steps.Items
pub use Rattle.frame_simulation.specs.flat_steps.FunctionItemsLaws as Laws
