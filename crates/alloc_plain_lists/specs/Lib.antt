pub mod Plain
pub mod Spilled
pub mod Runs
pub mod model
