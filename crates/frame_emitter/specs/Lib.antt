pub mod Settings
pub mod Moves
pub mod Layouts
pub use Rattle.frame_simulation.specs.function_shapes.Shapes
pub use Rattle.frame_steps.specs.function_items.Items
pub use Rattle.frame_steps.specs.function_items.InstructionItems
