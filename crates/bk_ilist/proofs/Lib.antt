pub mod Chains
pub mod Changes
pub mod Distinct
pub mod Splits
pub mod Tails
pub mod Views
pub mod Writes
