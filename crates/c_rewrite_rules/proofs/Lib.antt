pub mod Exchanges
pub mod LiteralLists
pub mod Kept
pub mod IdleSteps
