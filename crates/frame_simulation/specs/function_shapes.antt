pub mod Shapes
pub use Rattle.frame_simulation.specs.placed_steps.Divisions
pub use Rattle.frame_simulation.specs.placed_steps.Points
