pub mod Targets
pub mod Places
pub mod Judge
pub mod Steps
pub mod Text
pub mod Whole
pub mod Trees
pub mod Growth
