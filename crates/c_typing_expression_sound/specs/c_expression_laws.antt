pub mod Types
pub mod Walks
pub mod Laws
