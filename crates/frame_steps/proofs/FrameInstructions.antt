pub mod Frames
pub mod Operations
pub mod Runs
pub mod Words
