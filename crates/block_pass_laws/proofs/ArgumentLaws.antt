pub mod Kept
pub mod Widths
