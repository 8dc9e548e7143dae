pub mod Names
pub mod Conditions
pub mod model
pub use Rattle.frame_emitter.specs.Settings
pub use Rattle.frame_emitter.specs.Shapes
pub use Rattle.frame_emitter.specs.Items
