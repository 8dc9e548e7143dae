pub mod Addresses
pub mod Cells
