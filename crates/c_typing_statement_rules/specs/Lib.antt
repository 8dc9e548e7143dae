pub mod Jumps
pub mod Values
pub mod Labels
pub mod Forms
