pub mod Tidy
pub mod model
