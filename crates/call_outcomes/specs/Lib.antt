pub mod Outcome
pub mod Output
pub mod FromFile
pub mod model
