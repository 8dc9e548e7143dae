pub mod Edges
pub mod Chains
pub mod Turns
pub mod Kept
pub mod Lawful
pub mod Whole
