pub mod Units
pub mod Builds
pub mod Runs
pub mod Fronts
pub mod Vm
