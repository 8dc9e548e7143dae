pub mod Null
pub mod Unary
pub mod Binary
pub mod Assigned
pub mod Casts
