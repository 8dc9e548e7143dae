pub mod Lists
pub mod Up
