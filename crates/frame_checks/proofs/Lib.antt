pub mod Asked
pub mod Loops
pub mod Storage
