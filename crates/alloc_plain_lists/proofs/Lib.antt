pub mod Sets
pub mod Registers
pub mod Lists
mod EdgeCodes
mod Walk
mod Given
mod Faithfulness
pub mod Counts
mod Loops
mod Lean
