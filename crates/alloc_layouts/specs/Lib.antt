pub mod Layouts
pub mod model
