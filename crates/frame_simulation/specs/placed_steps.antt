pub mod Points
pub use Rattle.frame_simulation.specs.division_calls.Laws
pub use Rattle.frame_simulation.specs.division_calls.Divisions
pub use Rattle.frame_simulation.specs.division_calls.Stacks
