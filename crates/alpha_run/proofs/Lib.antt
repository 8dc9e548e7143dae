pub mod Bytes
pub mod Steps
pub mod Turns
pub mod Runs
pub mod Machines
