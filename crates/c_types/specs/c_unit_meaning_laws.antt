pub mod Meanings
pub mod Laws
pub use Rattle.c_types.specs.c_unit_walk_laws.Shapes
pub use Rattle.c_types.specs.c_unit_walk_laws.Walks
pub use Rattle.c_types.specs.c_unit_walk_laws.Steps
pub use Rattle.c_typing_function_sound.specs.c_signature_laws.CStatementLaws
pub use Rattle.c_typing_function_sound.specs.c_signature_laws.Laws as CSignatureLaws
pub use Rattle.c_typing_units.specs.Units
pub use Rattle.c_typing_units.specs.Builtins
pub use Rattle.c_typing_units.specs.Externals
