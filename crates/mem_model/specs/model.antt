pub mod Objects
pub mod Representation
pub mod Table
