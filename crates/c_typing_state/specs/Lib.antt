pub mod Notes
pub mod Checks
pub mod Scopes
