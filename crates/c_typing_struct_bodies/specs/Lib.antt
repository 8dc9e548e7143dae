pub mod Enums
pub mod Members
pub mod Structs
pub mod Bodies
pub mod model
