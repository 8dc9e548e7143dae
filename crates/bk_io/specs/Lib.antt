pub mod Outside
pub mod Shelf
pub mod Memory
pub mod Adapters
pub mod model
