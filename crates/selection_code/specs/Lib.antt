pub mod Instructions
pub mod Functions
pub mod Fields
