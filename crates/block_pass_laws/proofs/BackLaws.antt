pub mod Bare
pub mod Splits
pub mod Removals
pub mod Forms
pub mod Settled
pub mod Names
pub mod Marks
