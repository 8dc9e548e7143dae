pub mod Parts
pub mod Fills
pub mod Values
pub mod Walks
