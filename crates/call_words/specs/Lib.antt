pub mod Limits
pub mod Line
pub mod Numbers
pub mod Options
pub mod Request
pub mod model
