pub mod Units
pub mod Heights
pub mod model
