pub mod Undefined
pub mod Units
pub mod c_builtins
pub mod c_typing_externals
pub use Rattle.c_typing_units.specs.c_builtins.Builtins
pub use Rattle.c_typing_units.specs.c_typing_externals.Externals
