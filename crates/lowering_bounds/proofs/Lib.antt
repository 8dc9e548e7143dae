pub mod Typing
pub mod Pieces
pub mod Expressions
pub mod Statements
pub mod Weights
pub mod Blocks
pub mod Functions
