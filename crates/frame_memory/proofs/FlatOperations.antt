pub mod Accesses
pub mod Operations
pub mod Steps
