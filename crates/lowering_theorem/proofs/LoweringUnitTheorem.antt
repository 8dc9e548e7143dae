pub mod Starts
pub mod Called
pub mod Meets
pub mod Units
