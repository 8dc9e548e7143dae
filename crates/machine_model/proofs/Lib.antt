pub mod Lagging
pub mod Outputs
pub mod Peaks
pub mod Runs
pub mod Simulation
pub mod Turns
