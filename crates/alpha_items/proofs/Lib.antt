pub mod Sums
pub mod Reach
pub mod Far
pub mod Forced
pub mod Unique
pub mod Exists
