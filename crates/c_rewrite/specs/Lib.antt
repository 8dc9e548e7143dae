pub mod Rewritten
pub mod Examples
pub mod model
