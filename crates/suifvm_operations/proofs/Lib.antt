pub mod Words
pub mod Offsets
pub mod Tidiness
pub mod Lives
pub mod Fills
pub mod Units
pub mod Loops
