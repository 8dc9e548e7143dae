pub mod Depths
pub mod Counts
