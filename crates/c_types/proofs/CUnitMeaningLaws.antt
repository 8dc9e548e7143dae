pub mod Names
pub mod Types
pub mod FunctionMeanings
pub mod Functions
pub use Rattle.c_types.proofs.CUnitWalkLaws.Texts
pub use Rattle.c_types.proofs.CUnitWalkLaws.Units
pub use Rattle.c_types.proofs.CUnitWalkLaws.CUnitStructLawsUnits
pub use Rattle.c_typing_function_sound.proofs.CSignatureLaws.Functions as CSignatureLawsFunctions
