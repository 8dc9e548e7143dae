pub mod Tables
pub mod Loops
mod Nexts
mod Shows
pub mod Journals
mod Ordered
