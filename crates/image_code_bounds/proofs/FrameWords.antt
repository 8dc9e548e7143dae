pub mod Texts
pub mod Pieces
pub mod Edges
pub mod Functions
