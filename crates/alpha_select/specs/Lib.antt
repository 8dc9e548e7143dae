pub mod Selection
pub mod model
