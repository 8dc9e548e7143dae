pub mod Run
pub mod model
pub mod Laws
