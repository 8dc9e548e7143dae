pub mod Lockstep
pub mod Functions
pub mod Lawful
