pub mod Builds
pub mod Matching
pub use Rattle.frame_simulation.specs.call_steps.Leaving
pub use Rattle.frame_simulation.specs.edge_shapes.Shapes
pub use Rattle.frame_simulation.specs.edge_shapes.Items
pub use Rattle.frame_simulation.specs.stack_rooms.Entering
pub use Rattle.frame_simulation.specs.stack_rooms.Stacks
pub use Rattle.frame_simulation.specs.stack_rooms.Laws
pub use Rattle.frame_simulation.specs.edge_shapes.Laws as FunctionItemsLaws
