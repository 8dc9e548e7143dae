pub mod Laws
pub mod Steps
pub use Rattle.c_typing_units.specs.Units
pub use Rattle.c_typing_units.specs.Builtins
pub use Rattle.c_typing_units.specs.Externals
