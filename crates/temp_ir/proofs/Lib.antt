pub mod Copies
pub mod TextLoops
