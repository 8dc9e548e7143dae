pub mod Causes
pub mod ImageLimit
