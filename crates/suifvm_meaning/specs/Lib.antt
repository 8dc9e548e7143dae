pub mod Operations
pub mod Effect
pub mod Behave
pub mod Laws
pub mod Examples
