pub mod Rounds
pub mod Blocks
pub mod Tested
pub mod Flows
