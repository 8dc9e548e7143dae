pub mod Straight
pub mod Constants
pub mod Registers
pub mod Accesses
pub mod Operations
pub mod Laws
