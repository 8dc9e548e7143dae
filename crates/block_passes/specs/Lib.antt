pub mod Keeps
pub mod Clauses
pub mod model
