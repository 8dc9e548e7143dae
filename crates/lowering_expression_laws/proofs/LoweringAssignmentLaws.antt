pub mod Locals
pub mod Assignments
