pub mod Stops
pub mod Progress
pub mod Falls
pub mod Quick
