pub mod Counts
pub mod ObjectNames
pub mod Typedefs
pub mod Objects
pub mod Units
