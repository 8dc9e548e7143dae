pub mod Registers
pub mod Items
pub mod Expressions
pub mod Statements
pub mod Layout
pub mod Functions
pub mod Units
