pub mod Insns
pub mod Functions
pub mod Live
pub mod Passes
