pub mod Sorted
pub mod First
