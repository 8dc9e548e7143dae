pub mod Opens
pub mod Weights
