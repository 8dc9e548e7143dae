pub mod Levels
pub mod Scopes
pub mod model
