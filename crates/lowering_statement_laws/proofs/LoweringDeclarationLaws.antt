pub mod Counts
pub mod Begun
pub mod Declarations
pub mod ForLoops
