pub mod Expressions
pub mod model
