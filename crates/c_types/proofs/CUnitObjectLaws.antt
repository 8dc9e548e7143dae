pub mod Goes
pub mod Types
pub mod Meant
pub mod Objects
pub use Rattle.c_types.proofs.CUnitMeaningLaws.Functions
pub use Rattle.c_types.proofs.CUnitMeaningLaws.Names
pub use Rattle.c_types.proofs.CUnitMeaningLaws.Types as CUnitMeaningLawsTypes
pub use Rattle.c_types.proofs.CUnitMeaningLaws.Texts
pub use Rattle.c_types.proofs.CUnitMeaningLaws.Units
pub use Rattle.c_types.proofs.CUnitMeaningLaws.CUnitStructLawsUnits
pub use Rattle.c_types.proofs.CUnitMeaningLaws.CSignatureLawsFunctions
pub use Rattle.c_typing_expression_sound.proofs.CBodyLaws.Notes
pub use Rattle.c_typing_function_sound.proofs.CStepLaws.Initialisers
pub use Rattle.c_typing_function_sound.proofs.CStepLaws.Statements
pub use Rattle.c_typing_expression_sound.proofs.CStructLaws.Growth
