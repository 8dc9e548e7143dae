pub mod Loops
pub mod Deeper
