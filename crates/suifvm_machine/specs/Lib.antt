pub mod Tables
pub mod Config
pub mod Begin
pub mod model
