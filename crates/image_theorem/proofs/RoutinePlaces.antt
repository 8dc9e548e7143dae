pub mod Lists
pub mod Texts
pub mod Near
pub mod Stand
