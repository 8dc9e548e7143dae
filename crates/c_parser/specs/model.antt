pub mod Answers
pub mod Faults
pub mod Gives
pub mod Parts
