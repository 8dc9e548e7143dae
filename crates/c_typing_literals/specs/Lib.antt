pub mod Integers
pub mod Characters
pub mod Texts
pub mod model
