pub mod Items
pub mod Assembly
pub mod Layout
pub mod Words
