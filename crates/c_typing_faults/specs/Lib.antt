pub mod Faults
pub mod model
