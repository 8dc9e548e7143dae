pub mod Entries
pub mod Exits
pub mod Stacks
pub mod Words
