pub mod Kept
pub mod Bulks
