pub mod Indexes
pub mod Codes
