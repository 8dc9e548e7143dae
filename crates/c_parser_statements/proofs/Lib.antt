pub mod Loops
pub mod Deeper
pub mod Opens
