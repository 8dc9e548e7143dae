pub mod Numbers
pub mod Locals
pub mod Statements
pub mod Functions
