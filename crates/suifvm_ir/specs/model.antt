pub mod OneTarget
pub mod Targets
