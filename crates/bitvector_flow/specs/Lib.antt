pub mod Flows
pub mod Lives
pub mod model
