pub mod Calls
pub use Rattle.frame_simulation.specs.call_exits.Leaving
pub use Rattle.frame_simulation.specs.call_entries.Stacks
