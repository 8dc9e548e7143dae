pub mod Answers
pub mod model
pub mod c_parser_types
