pub mod Builtins
