pub mod Laid
pub mod Sizes
pub mod Kept
