pub mod Insns
pub mod Programs
pub mod Cost
pub mod Lines
pub mod Text
pub mod model
