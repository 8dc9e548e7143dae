pub mod Search
pub mod Marked
pub mod ReachedPart
