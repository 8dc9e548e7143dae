pub mod Unfit
pub mod Values
pub mod Initialisers
pub mod model
