pub mod Named
pub mod Used
