pub mod Integers
pub mod Operators
pub mod Accesses
