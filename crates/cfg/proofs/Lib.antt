pub mod Lists
pub mod Sources
pub mod Searching
pub mod Bare
pub mod Blocks
pub mod Simulation
pub mod Kept
pub mod CfgText
