pub mod Edges
pub use Rattle.frame_simulation.specs.placed_steps.Points
pub use Rattle.frame_steps.specs.function_items.Items
pub use Rattle.frame_steps.specs.function_items.Laws
