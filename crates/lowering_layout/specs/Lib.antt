pub mod Tops
pub mod Good
pub mod Views
pub mod model
