pub mod Edges
pub use Rattle.frame_simulation.specs.function_shapes.Shapes
pub use Rattle.frame_simulation.specs.function_shapes.Divisions
pub use Rattle.frame_simulation.specs.function_shapes.Points
pub use Rattle.frame_steps.specs.function_items.Items
pub use Rattle.frame_steps.specs.function_items.Laws
