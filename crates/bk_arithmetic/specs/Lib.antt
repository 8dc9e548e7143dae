pub mod IntegerTypes
pub mod Words
pub mod Operations
pub mod Outcomes
