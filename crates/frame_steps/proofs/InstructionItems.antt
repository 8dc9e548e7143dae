pub mod Instructions
pub mod Runs
pub mod Services
