pub mod Windows
pub mod Acts
