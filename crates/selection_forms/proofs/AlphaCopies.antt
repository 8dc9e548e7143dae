pub mod Bytes
pub mod Lists
pub mod Parts
pub mod Copying
pub mod Turns
