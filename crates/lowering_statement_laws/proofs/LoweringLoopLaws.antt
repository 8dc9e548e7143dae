pub mod Loops
pub mod DoLoops
