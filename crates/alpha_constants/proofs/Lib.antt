mod Words
pub mod Choices
