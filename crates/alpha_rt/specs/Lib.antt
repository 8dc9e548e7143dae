pub mod Routine
pub mod Code
pub mod Calls
pub mod Items
pub mod model
