pub mod model
pub mod Plain
