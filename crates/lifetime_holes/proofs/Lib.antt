pub mod Joining
pub mod Pointing
pub mod Tables
pub mod Stepping
pub mod Agreement
pub mod Ranges
pub mod Done
