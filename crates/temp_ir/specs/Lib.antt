pub mod Insns
pub mod Fixed
pub mod Operations
pub mod Programs
pub mod Cost
pub mod Text
pub mod model
