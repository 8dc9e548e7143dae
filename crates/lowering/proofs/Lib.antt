pub mod Parts
pub mod Programs
pub mod Small
pub mod Turns
