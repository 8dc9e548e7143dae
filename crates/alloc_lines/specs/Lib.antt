pub mod Registers
pub mod Text
