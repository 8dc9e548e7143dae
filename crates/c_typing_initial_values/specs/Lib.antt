pub mod Cells
pub mod Values
pub mod Parts
pub mod model
