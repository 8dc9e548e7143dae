pub mod Declarators
pub mod Depth
