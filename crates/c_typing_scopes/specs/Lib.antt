pub mod Names
pub mod model
