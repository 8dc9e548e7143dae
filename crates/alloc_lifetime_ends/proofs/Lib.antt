pub mod Few
pub mod Raising
pub mod Points
pub mod Wants
