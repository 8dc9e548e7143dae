pub mod Lists
pub mod Standing
pub mod Names
pub mod Programs
