pub mod Sums
pub mod Sweeps
pub mod Text
pub mod Plans
