pub mod Made
pub mod Laws
pub use Rattle.c_typing_function_sound.specs.c_typing_height_laws.c_function_name_laws.Laws as FunctionNames
pub use Rattle.c_typing_initialiser_sound.specs.c_initialiser_laws.Laws as Initialisers
pub use Rattle.c_types.specs.c_unit_object_laws.Walks
