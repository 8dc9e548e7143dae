pub mod Loops
pub mod Deeper
pub mod Opens
pub mod Whole
pub mod OneAnswer
