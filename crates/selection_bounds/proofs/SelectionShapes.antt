pub mod Plain
pub mod Walk
pub mod Shaped
pub mod Registers
pub mod Settled
pub mod Marks
pub mod Named
