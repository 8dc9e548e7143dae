pub mod Objects
pub mod Locals
pub use Rattle.c_typing_struct_bodies.specs.Members
