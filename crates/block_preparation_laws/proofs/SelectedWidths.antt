pub mod Widths
pub mod Selected
pub mod Tested
