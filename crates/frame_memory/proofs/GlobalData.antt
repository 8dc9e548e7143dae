pub mod Lists
pub mod Fixes
pub mod Objects
pub mod Holds
