pub mod Listing
pub mod model
