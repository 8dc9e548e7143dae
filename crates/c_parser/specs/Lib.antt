pub use Rattle.c_parser_nesting.specs.HasNesting
pub mod Limits
pub mod Faults
pub mod Reading
pub mod model
