pub mod Definitions
pub mod model
