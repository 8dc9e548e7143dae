pub mod Rooms
pub use Rattle.frame_simulation.specs.call_entries.Entering
pub use Rattle.frame_simulation.specs.call_entries.Stacks
pub use Rattle.frame_simulation.specs.call_entries.Items
pub use Rattle.frame_simulation.specs.call_entries.Laws
