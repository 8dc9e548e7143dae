pub mod Changes
pub mod Writes
