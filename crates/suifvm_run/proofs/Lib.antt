pub mod AtOnce
pub mod Progress
pub mod Wholes
pub mod Falls
pub mod Ends
