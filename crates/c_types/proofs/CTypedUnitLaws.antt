pub mod Contexts
pub mod Mains
pub mod Cells
pub mod Bodies
pub mod Units
