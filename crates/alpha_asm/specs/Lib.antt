pub mod Fault
pub mod model
