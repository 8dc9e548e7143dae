pub mod Limits
pub mod AssembleText
pub mod Call
pub mod model
