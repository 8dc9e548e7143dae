pub mod Code
pub mod Example
pub mod Laws
pub mod Machine
