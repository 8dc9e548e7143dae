pub mod Whole
pub mod Notes
pub mod Structs
pub mod Forms
pub mod Calls
