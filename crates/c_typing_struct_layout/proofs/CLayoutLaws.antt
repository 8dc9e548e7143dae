pub mod Truth
pub mod Layouts
