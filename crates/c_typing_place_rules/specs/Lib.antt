pub mod Places
pub mod Assignments
pub mod Members
pub mod model
