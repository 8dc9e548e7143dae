pub mod Lowered
pub mod model
