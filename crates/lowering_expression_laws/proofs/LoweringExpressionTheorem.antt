pub mod Types
pub mod Known
pub mod Places
pub mod Operators
pub mod Changes
pub mod Conversions
pub mod Calls
pub mod Expressions
