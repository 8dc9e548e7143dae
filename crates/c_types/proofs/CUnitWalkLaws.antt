pub mod Counted
pub mod Texts
pub mod Shapes
pub mod Names
pub mod Declarations
pub mod Externals
pub mod Units
pub use Rattle.c_types.proofs.CUnitStructLaws.Units as CUnitStructLawsUnits
