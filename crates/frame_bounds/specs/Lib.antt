pub mod Rooms
pub mod Near
pub mod Fronts
pub mod frame_labels
pub mod frame_ranges
pub use Rattle.frame_emitter.specs.Settings
pub use Rattle.frame_emitter.specs.Shapes
