pub mod Units
pub mod Spellings
pub mod Laws
pub mod c_unit_struct_laws
pub mod c_unit_walk_laws
pub mod c_unit_meaning_laws
pub mod c_unit_object_laws
pub mod c_found_unit_laws
pub mod model
pub mod c_object_count_laws
pub mod c_typed_unit_laws
pub use Rattle.c_typing_units.specs.Units as CUnits
pub use Rattle.c_types.specs.c_typed_unit_laws.FunctionNames
pub use Rattle.c_types.specs.c_typed_unit_laws.Initialisers
pub use Rattle.c_types.specs.c_typed_unit_laws.Walks
