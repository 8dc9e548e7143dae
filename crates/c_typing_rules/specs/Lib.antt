pub mod Rulings
pub mod Types
pub mod Values
pub mod Arithmetic
pub mod Comparisons
pub mod Conversions
pub mod model
pub mod c_typing_declared_types
