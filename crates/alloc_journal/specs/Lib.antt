pub mod Covered
pub mod Handed
pub mod Order
pub mod model
