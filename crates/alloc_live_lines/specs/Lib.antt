pub mod Text
pub mod Lives
pub mod model
