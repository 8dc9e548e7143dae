pub mod Words
pub mod Nodes
pub mod model
