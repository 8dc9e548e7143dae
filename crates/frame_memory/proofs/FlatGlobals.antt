pub mod Lists
pub mod LaidOut
pub mod Stands
