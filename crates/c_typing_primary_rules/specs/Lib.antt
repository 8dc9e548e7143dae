pub mod Primary
pub mod Calls
pub mod Commas
pub mod Switches
