pub mod Changes
pub mod Combine
pub mod Leads
pub mod Registers
pub mod Memory
