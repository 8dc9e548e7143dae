pub mod Statements
pub mod model
pub mod c_typing_function_bodies
