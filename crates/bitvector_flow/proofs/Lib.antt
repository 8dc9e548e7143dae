pub mod Unions
pub mod Rounds
pub mod Registers
pub mod Lives
pub mod Tested
