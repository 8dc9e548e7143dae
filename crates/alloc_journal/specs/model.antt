pub mod Holders
pub mod Tables
pub mod Leaving
pub mod Visits
