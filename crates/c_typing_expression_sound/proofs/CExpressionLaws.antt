pub mod Types
pub mod Walks
pub mod Parts
pub mod Expressions
