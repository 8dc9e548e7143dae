pub mod Arithmetic
pub mod Runs
pub mod Words
pub mod Zeros
